-- The walk over a text finds the one list of spans that the text consists of, and its first error.
use Rattle.humantime.specs.Characters.{begins, ends, drop_while, take_while, is_whitespace, bare_zero, is_digit}
use Rattle.humantime.specs.DurationErrors.{Fault, OnlyWhitespace, Split, may_follow_span, span_of, NumberOverflow, BeginsWithSpan, HasFault}
use Rattle.humantime.specs.Durations.{SpelledSpan, SpellsSpans, SpellsFront, Reads, Spells, Formed, WithinLimits}
use Rattle.humantime.specs.Items.{Items, AreSpansAndStop, EndsOrStops}
use Rattle.humantime.specs.Walks.{Walk, walk, walk_from, fault_at, stop_at, items, walk_of}
use Rattle.std.proofs.Common.{◌==◌, ◌≡◌, ◌≢◌, ℕ, zero, suc, ◌<◌, false, List, [], ◌∷◌, length, Some, None, refl, arith, ◌⊎◌, true, ◌++◌, map, Option, inl, append-nil, sym, ap, length-append, inr, append_assoc}
use Rattle.std.proofs.lemmas.Bool.Decides.{nat_tests}
use Rattle.std.proofs.lemmas.Grind.{common_steps}
use Rattle.std.proofs.lemmas.List.{length-map}
use Rattle.std.specs.List.{AllByRecursion}
use Rattle.humantime.proofs.Spellings.{next_of, next_smaller, IsSpelledAt, spelled_here, apart, span_has_no_fault, stop_is_fault, each-append, spells_spans-append, no_fault_is_span, fault_is_stop, written_here}
use Rattle.humantime.proofs.Characters.{digit_in_number, digit_not_whitespace, drop_while-append, begins-append, ends-append, take_while-drop_while, take_while-only, begins-drop_while}
use Rattle.humantime.proofs.Sums.{within_tells, within_or_beyond}

-- ==== Induction over the walk over the spans of a text, whatever its bound on the number of spans.

-- What has to be proved of each rest and of the walk from there: at an error or the end of the
-- text, and at a span.
pub record Steps (text : List ℕ) (P : List ℕ → Walk → Type 0) : Type 0 where
  pub stop : (rest : List ℕ) (e : Fault) → fault_at text rest ≡ Some e
      → P rest (record { starts = []; rest = rest })
  pub go : (rest : List ℕ) (w : Walk) → fault_at text rest ≡ None → P (next_of rest) w
      → P rest (record { starts = rest ∷ w.starts; rest = w.rest })

by_count : (n : ℕ) (text : List ℕ) (P : List ℕ → Walk → Type 0) → Steps text P → (rest : List ℕ)
    → length rest < n → P rest (walk n text rest)
unfolding walk
by_count zero text P s rest h = absurd (omega arith)
by_count (suc n) text P s rest h =
    grind (
      arith,
      (s.stop rest),
      (s.go rest),
      (no_fault_is_span text rest),
      (next_smaller rest),
      (by_count n text P s (next_of rest)),
    )

pub by_walk : (text : List ℕ) (P : List ℕ → Walk → Type 0) → Steps text P → (rest : List ℕ)
    → P rest (walk_from text rest)
by_walk text P s rest = by_count (suc (length rest)) text P s rest (omega arith)

-- As many steps as the rest has characters, and one more, are enough.
enough : (n m : ℕ) (text rest : List ℕ) → length rest < n → length rest < m
    → walk n text rest ≡ walk m text rest
unfolding walk
enough (suc n) (suc m) text rest h k =
    grind (
      arith,
      (no_fault_is_span text rest),
      (next_smaller rest),
      (enough n m text (next_of rest)),
    )
enough n m text rest h k = absurd (omega arith)

pub walk-go : (text rest : List ℕ) → fault_at text rest ≡ None
    → walk_from text rest ≡ record {
      starts = rest ∷ (walk_from text (next_of rest)).starts;
      rest = (walk_from text (next_of rest)).rest;
    }
unfolding walk
walk-go text rest h = grind (arith, enough, (no_fault_is_span text rest), (next_smaller rest))

-- ==== The walk over a text finds the spans that the text consists of.

-- The front ends before the rest: with whitespace, or because of the first character of the rest.
abbrev pub Closes : List ℕ → List ℕ → Type 0
Closes front rest = (may_follow_span rest ≡ true) ⊎ (ends is_whitespace front ≡ true)

no_whitespace_before : (body rest : List ℕ) (ss : List SpelledSpan) → SpellsSpans body ss
    → begins is_whitespace rest ≡ false → begins is_whitespace (body ++ rest) ≡ false
no_whitespace_before body rest [] h e = grind arith
no_whitespace_before body rest (s ∷ ss) h e = grind (arith, begins-append, digit_not_whitespace)

-- Each spelling except for the last one ends before a digit.
closes_here : (here more rest : List ℕ) (ss : List SpelledSpan) → SpellsSpans more ss
    → Closes (here ++ more) rest → Closes here (more ++ rest)
closes_here here more rest [] h o = grind (arith, append-nil)
closes_here here more rest (s ∷ ss) h o = grind (arith, begins-append, digit_in_number)

closes_more : (xs ys rest : List ℕ) (ss : List SpelledSpan) → SpellsSpans ys ss
    → (ss ≡ []) ⊎ Closes (xs ++ ys) rest → (ss ≡ []) ⊎ Closes ys rest
closes_more xs ys rest [] h o = inl refl
closes_more xs ys rest (s ∷ ss) h o = grind (arith, (ends-append is_whitespace xs ys))

-- The first of these spans is the span at the start of the text.
pub first_here : (body rest : List ℕ) (s : SpelledSpan) (ss : List SpelledSpan)
    (h : SpellsSpans body (s ∷ ss)) → Closes body rest → begins is_whitespace rest
    ≡ false → IsSpelledAt (body ++ rest) s (h.0 ++ rest)
first_here body rest s ss h o e =
    let p = apart body h.0 s h.1 in
    grind (
      arith,
      common_steps,
      p,
      (closes_here p.0 h.0 rest ss h.2),
      (spelled_here p.0 (h.0 ++ rest) s p.2),
      (no_whitespace_before h.0 rest ss h.2 e),
    )

-- The spans from a rest on, and the rest after them.
abbrev pub walked : List ℕ → List ℕ → List SpelledSpan × List ℕ
walked text rest = let w = walk_from text rest in (map span_of w.starts, w.rest)

-- The walk passes these spans and continues at the rest.
through : (text body rest : List ℕ) (spans : List SpelledSpan) → SpellsSpans body spans
    → AllByRecursion Formed spans → (spans ≡ []) ⊎ Closes body rest
    → begins is_whitespace rest ≡ false
    → walked text (body ++ rest) ≡ (spans ++ (walked text rest).0, (walked text rest).1)
through text body rest [] h f o e = rw h refl
through text body rest (s ∷ ss) h f o e =
    let p = apart body h.0 s h.1 in
    let more = through text h.0 rest ss h.2 f.1 in
    grind (
      arith,
      p,
      (closes_more p.0 h.0 rest ss h.2),
      (first_here body rest s ss h),
      more,
      (walk-go text (body ++ rest)),
      (span_has_no_fault text (body ++ rest)),
    )

-- The front of a split begins after the leading whitespace.
pub front_begins : (text front rest : List ℕ) (spans : List SpelledSpan)
    (h : Split text front spans rest) → drop_while is_whitespace text ≡ h.spelled.body ++ rest
front_begins text front rest spans h =
    grind (arith, common_steps, drop_while-append, no_whitespace_before)

pub front_walked : (text front rest : List ℕ) (spans : List SpelledSpan)
    → Split text front spans rest → AllByRecursion Formed spans → (spans ≡ []) ⊎ Closes front rest
    → walked text (drop_while is_whitespace text) ≡ (spans ++ (walked text rest).0, (walked text rest).1)
front_walked text front rest spans h f o =
    grind (
      arith,
      (front_begins text front rest spans h),
      (through text h.spelled.body rest spans h.spelled.each f),
      closes_more,
    )

-- The walk ends where the items do.
ends_walked : (text front rest : List ℕ) (spans : List SpelledSpan) (stop : Option Fault)
    → EndsOrStops text front spans rest stop
    → (walk_from text rest ≡ record { starts = []; rest = rest })
    × (stop_at (length spans == 0) text rest ≡ stop)
unfolding walk fault_at
ends_walked text front (c ∷ cs) spans (Some e) h =
    grind (arith, (stop_is_fault text front spans (c ∷ cs) e (λ n. cc) h))
ends_walked text front [] (x ∷ xs) stop h = grind (arith, nat_tests)
ends_walked text front rest spans stop h = grind arith

-- The reference finds any items of a text.
pub items_walked : (text : List ℕ) (spans : List SpelledSpan) (stop : Option Fault)
    → Items text spans stop → items text ≡ record { spans = spans; stop = stop }
unfolding items
items_walked text spans stop h =
    grind (
      arith,
      (front_walked text h.front h.rest spans h.split h.formed),
      (ends_walked text h.front h.rest spans stop h.ends),
      append-nil,
      length-map,
    )

-- ==== A text is at most one list of spans, and the text `0` is none.

-- A whole text is a front with nothing after it.
pub split_whole : (text : List ℕ) (spans : List SpelledSpan) → SpellsFront text spans
    → Split text text spans []
split_whole text spans h =
    record { whole = sym (append-nil text); spelled = h; no_whitespace = refl }

one_each : (body : List ℕ) (ss ts : List SpelledSpan) → SpellsSpans body ss → SpellsSpans body ts
    → ss ≡ ts
one_each body [] [] h k = refl
one_each body (s ∷ ss) (t ∷ ts) h k = grind (
  arith,
  (first_here body [] s ss h (inl refl) refl),
  (first_here body [] t ts k (inl refl) refl),
  append-nil,
  (one_each h.0 ss ts h.2),
)
one_each body [] (t ∷ ts) h k = grind arith
one_each body (s ∷ ss) [] h k = grind arith

pub one_reading : (text : List ℕ) (ss ts : List SpelledSpan) → Reads text ss → Reads text ts
    → ss ≡ ts
one_reading text ss ts h k =
    grind (
      arith,
      common_steps,
      (front_begins _ _ _ _ (split_whole _ _ h.0)),
      (front_begins _ _ _ _ (split_whole _ _ k.0)),
      one_each,
    )

-- A text of spans has a digit and a letter.
pub not_zero : (text : List ℕ) (spans : List SpelledSpan) → Reads text spans → text ≢ bare_zero
not_zero text [] h e = absurd (h.1 refl)
not_zero text (s ∷ ss) h e = grind (
  arith,
  common_steps,
  length-append,
  (ap length e),
  (ap length h.0.whole),
  (ap length h.0.each.1.whole),
)

-- ==== The results of the walk over a text: its items, and an overflow of its sum.

-- The front is these spans, each well formed, and the walk continues at the rest.
pub record IsReadTo (text front : List ℕ) (spans : List SpelledSpan) (rest : List ℕ) : Type 0 where
  pub split : Split text front spans rest
  pub formed : AllByRecursion Formed spans
  pub follows : rest ≢ [] → begins is_digit rest ≡ false
      → (spans ≡ []) ⊎ (ends is_whitespace front ≡ true)

front_push : (front here : List ℕ) (ss : List SpelledSpan) (s : SpelledSpan) → SpellsFront front ss
    → Spells here s [] → SpellsFront (front ++ here) (ss ++ s ∷ [])
front_push front here ss s h p =
    grind (arith, common_steps, (spells_spans-append h.body here ss (s ∷ []) h.each ([], p, refl)))

-- One more span is parsed.
pub read_on : (text front rest : List ℕ) (spans : List SpelledSpan) → IsReadTo text front spans rest
    → BeginsWithSpan rest
    → (here : List ℕ) × IsReadTo text (front ++ here) (spans ++ span_of rest ∷ []) (next_of rest)
read_on text front rest spans r f =
    let w = written_here rest f in
    let each = front_push front w.0 spans (span_of rest) r.split.spelled w.2 in
    let formed = each-append Formed spans (span_of rest ∷ []) r.formed in
    grind (
      arith,
      common_steps,
      w,
      (each),
      formed,
      (begins-drop_while is_whitespace),
      (ends-append is_whitespace front w.0),
    )

-- The leading whitespace of a text is skipped, and no span is parsed yet.
pub begun : (text : List ℕ)
    → IsReadTo text (take_while is_whitespace text) [] (drop_while is_whitespace text)
begun text = grind (arith, common_steps, take_while-drop_while, take_while-only, begins-drop_while)

-- The text after these spans is parsed up to the end of a walk, where an error is. If the spans
-- break a limit only together with those of the walk, so does the span at which the sum overflows.
abbrev ReadsOn : List ℕ → List ℕ → Walk → Type 0
ReadsOn text rest w = (front : List ℕ) (spans : List SpelledSpan) → IsReadTo text front spans rest
    → ((end : List ℕ) × IsReadTo text end (spans ++ map span_of w.starts) w.rest)
    × (text ≢ bare_zero → WithinLimits spans → ¬ (WithinLimits (spans ++ map span_of w.starts))
    → HasFault text NumberOverflow)
    × ((e : Fault) × (fault_at text w.rest ≡ Some e))

read_all : (text : List ℕ) → ReadsOn text (drop_while is_whitespace text) (walk_of text)
read_all text = by_walk text (ReadsOn text) (record {
  stop = λ rest e s front spans r.
      rw (append-nil spans) ((front, r), (λ some within big. absurd (big within)), (e, s));
  go = λ rest w s more front spans r.
      let fine = no_fault_is_span text rest s in
      let k = read_on text front rest spans r fine in
      let i = rw append_assoc at (more (front ++ k.0) (spans ++ span_of rest ∷ []) k.1) in
      elim (within_or_beyond (spans ++ span_of rest ∷ []) k.1.formed) [
        | inl h ↦ (i.0, (λ some g big. i.1 some h big), i.2)
        | inr o ↦ (i.0, (λ some g big. grind (arith, (r.split), fine, o)), i.2)
      ];
}) (drop_while is_whitespace text)

-- The text ends or stops where no span begins.
pub stops_here : (text front rest : List ℕ) (spans : List SpelledSpan) (e : Fault)
    → IsReadTo text front spans rest → fault_at text rest ≡ Some e
    → EndsOrStops text front spans rest (stop_at (length spans == 0) text rest)
stops_here text front [] [] e r s = OnlyWhitespace refl refl refl
stops_here text front [] (x ∷ xs) e r s = grind (arith, nat_tests)
stops_here text front (c ∷ cs) spans e r s =
    rw s (fault_is_stop text front spans (c ∷ cs) e (λ n. cc) (r.follows (λ n. cc)) s)

-- The items of a text, and the rest after them.
pub items_found_at : (text : List ℕ) → let w = walk_of text in
    (i : Items text (map span_of w.starts) (stop_at (length w.starts == 0) text w.rest))
    × (i.rest ≡ w.rest)
items_found_at text =
    let r = read_all text (take_while is_whitespace text) [] (begun text) in
    let ends =
    rw (length-map (walk_of text).starts span_of) at
    (stops_here text r.0.0 (walk_of text).rest _ r.2.0 r.0.1 r.2.1) in (
      record {
        front = r.0.0;
        rest = (walk_of text).rest;
        split = r.0.1.split;
        formed = r.0.1.formed;
        ends = ends;
      },
      refl,
    )

pub items_found : (text : List ℕ) → AreSpansAndStop text (items text)
unfolding items
items_found text = (items_found_at text).0

-- If the spans of a text break a limit, its fault is an overflow.
pub too_large_found : (text : List ℕ) → text ≢ bare_zero → ¬ (WithinLimits (items text).spans)
    → HasFault text NumberOverflow
unfolding items
too_large_found text some = (read_all text (take_while is_whitespace text) [] (begun text)).1 some
    ((within_tells [] tt).0 refl)
