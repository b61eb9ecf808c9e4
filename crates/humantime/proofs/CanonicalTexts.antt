-- A duration has one printed text, and the text parses to the duration.
use Rattle.humantime.specs.Characters.{whitespace_chars, is_whitespace, u64_max}
use Rattle.humantime.specs.DurationErrors.{Fault, HasFault}
use Rattle.humantime.specs.DurationResults.{duration_text, duration_answer, canonical_answer}
use Rattle.humantime.specs.Durations.{Quantity, SpelledSpan, HasOnly, Spells, SpellsSpans, quantity_nanos, size, times, total, additions_of, additions, value, Formed, fits, Accepted, SumOf}
use Rattle.humantime.specs.PrintedDurations.{CanonicalizesTo, Suffix, printed_count, joined_or_zero, IsCanonicalText}
use Rattle.humantime.specs.Values.{duration_end, nanos_per_second}
use Rattle.std.proofs.Common.{arith, ◌≡◌, ◌↔◌, ℕ, List, Result, Ok, Err, refl, true, ◌*◌, ◌/◌, ◌%◌, ◌^◌, ◌<◌, ◌≤◌, [], ◌∷◌, ◌++◌, sym, ◌∙◌, chars, IsUtf8, codes, decimal, map, nat_lt, mul_assoc, mul_comm, append_assoc, append-nil, filter}
use Rattle.std.proofs.lemmas.Bool.{and_parts}
use Rattle.std.proofs.lemmas.Bool.Decides.{nat_tests}
use Rattle.std.proofs.lemmas.Fmt.{IsAscii-decimal}
use Rattle.std.proofs.lemmas.Grind.{common_steps}
use Rattle.std.proofs.lemmas.Nat.{mod_below}
use Rattle.std.proofs.lemmas.Str.{chars-append, chars-IsAscii, chars-nil, IsUtf8-append, IsUtf8-from_ascii}
use Rattle.std.specs.List.{AllByRecursion, join_with_byte}
use Rattle.humantime.proofs.Counts.{printed_is_canon, canon_is_text, decimal_number, space, word_for, span_for, is_of_kind, IsPrintedWord, is_word-true, sized_units, counts_of_units, is_table, table}
use Rattle.humantime.proofs.Outcomes.{answer_accepts, answer_faults, accepted_from_outcome, outcome_accepted}
use Rattle.humantime.proofs.Spellings.{each-append, spells-append}
use Rattle.humantime.proofs.Sums.{value-cons, IsSmall, small_have_room, room_is_duration}
use Rattle.humantime.proofs.OnLiterals.{humantime_on_literals}

-- ==== The canonical text of the result of parsing a text.

-- The result is the canonical text, or the fault.
pub answer_is_canonical : (s : List ℕ) (r : Result (List ℕ) Fault) → r ≡ canonical_answer (chars s)
    → (t : List ℕ) → (r ≡ Ok t) ↔ CanonicalizesTo s t
unfolding canonical_answer
answer_is_canonical s r e t =
    let decided = answer_accepts (chars s) (duration_answer (chars s)) refl in
    let printed : r ≡ Ok t → (v : ℕ) × (duration_answer (chars s) ≡ Ok v) × (duration_text v ≡ t) =
    λ h. grind arith in (
      λ h.
          let p = printed h in record {
            duration = p.0;
            accepted = (decided p.0).0 p.1;
            canon = rw (← p.2) (printed_is_canon p.0);
          },
      λ h. grind (arith, (canon_is_text h.duration t h.canon), ((decided h.duration).1 h.accepted)),
    )

pub answer_is_fault : (s : List ℕ) (r : Result (List ℕ) Fault) → r ≡ canonical_answer (chars s)
    → (f : Fault) → (r ≡ Err f) ↔ HasFault (chars s) f
unfolding canonical_answer
answer_is_fault s r e f =
    grind (arith, (answer_faults (chars s) (duration_answer (chars s)) refl f))

-- ==== A printed text is spans within all limits, whose sum is the duration.

-- The count is printed as the text of its span, which keeps all limits.
abbrev pub IsPrintedSpan : ℕ → Suffix → Type 0
IsPrintedSpan n s =
    IsUtf8 (printed_count n s) × ((white : List ℕ) → HasOnly is_whitespace white
    → Spells (chars (printed_count n s) ++ white) (span_for n s) [])
    × Formed (span_for n s) × (fits (span_for n s) ≡ true)
    × AllByRecursion IsSmall (additions_of (span_for n s))

-- What a count adds, if the remainder is less than `m` and is a duration.
few : (m n : ℕ) (x : Quantity) → 0 < size x → is_of_kind m x ≡ true → quantity_nanos x * n < m
    → quantity_nanos x * n < duration_end
    → (n < 2 ^ 64) × (n * size x ≤ u64_max) × IsSmall (times n x)
    × (quantity_nanos (times n x) ≡ quantity_nanos x * n)
few m n x some kind below whole = grind (arith, nat_tests, mul_comm, mul_assoc)

count_chars : (n : ℕ) (s : Suffix) → n < 2 ^ 64
    → chars (printed_count n s) ≡ decimal n ++ chars (word_for n s)
count_chars n s h = grind (
  arith,
  common_steps,
  IsAscii-decimal,
  append_assoc,
  chars-append,
  IsUtf8-from_ascii,
  chars-IsAscii,
)

printed_span : (w m n : ℕ) (s : Suffix) → IsPrintedWord w m (word_for n s) → w * n < m
    → w * n < duration_end → IsPrintedSpan n s × (total (additions_of (span_for n s)) ≡ w * n)
printed_span w m n s i below whole =
    let few = few m n i.0.one i.3 i.4 (rw i.2 below) (rw i.2 whole) in
    let utf8 = IsUtf8-append (decimal n) (word_for n s)
    (IsUtf8-from_ascii (decimal n) (IsAscii-decimal n few.0)) i.5 in
    grind (arith, common_steps, (decimal_number n few.0), count_chars, few, i, rw (← append_assoc) at utf8)

-- The counts that are not zero, and their spans.
abbrev pub shown : List (ℕ × Suffix) → List (ℕ × Suffix)
shown cs = filter (λ c. nat_lt 0 c.0) cs

abbrev pub spans_of : List (ℕ × Suffix) → List SpelledSpan
spans_of cs = map (λ c. span_for c.0 c.1) cs

abbrev pub AllPrintedSpans : List (ℕ × Suffix) → Type 0
AllPrintedSpans cs = AllByRecursion (λ c. IsPrintedSpan c.0 c.1) cs

-- The counts that are printed are spans, and the sum of their spans is `d`.
shown_spans : (us : List (ℕ × Suffix)) (m d : ℕ) → is_table us m ≡ true → d < m → d < duration_end
    → AllPrintedSpans (shown (counts_of_units us d))
    × (value (spans_of (shown (counts_of_units us d))) ≡ d)
shown_spans [] m d h below whole = grind (arith, nat_tests)
shown_spans (u ∷ us) m d h below whole =
    grind (
      arith,
      is_word-true,
      and_parts,
      nat_tests,
      value-cons,
      (printed_span u.0 m (d / u.0) u.1),
      mod_below,
      (shown_spans us u.0 (d % u.0)),
    )

-- ---- the text of these spans

chars_space : (p q : List ℕ) → IsUtf8 p
    → chars (p ++ space ∷ q) ≡ (chars p ++ space ∷ []) ++ chars q
chars_space p q utf8 =
    grind (
      arith,
      (chars-append p (space ∷ q) utf8),
      (chars-append (space ∷ []) q),
      (IsUtf8-from_ascii (space ∷ [])),
      (chars-IsAscii (space ∷ [])),
      append_assoc,
    )

-- The text of the counts, joined with single spaces.
abbrev pub counts_text : List (ℕ × Suffix) → List ℕ
counts_text cs = join_with_byte space (map (λ c. printed_count c.0 c.1) cs)

counts_spell : (cs : List (ℕ × Suffix)) → AllPrintedSpans cs
    → SpellsSpans (chars (counts_text cs)) (spans_of cs)
unfolding is_whitespace whitespace_chars
counts_spell [] h = chars-nil
counts_spell (c ∷ []) h = ([], rw append-nil at (h.0.1 [] tt), refl)
counts_spell (c ∷ d ∷ cs) h =
    let rest = chars (counts_text (d ∷ cs)) in (
      rest,
      rw (chars_space _ _ h.0.0)
          (spells-append _ [] rest (span_for c.0 c.1) (h.0.1 (space ∷ []) (refl, tt))),
      counts_spell
          (d ∷ cs) h.1,
    )

-- The spans keep their limits, and each adds little.
counts_within : (cs : List (ℕ × Suffix)) → AllPrintedSpans cs
    → AllByRecursion Formed (spans_of cs) × AllByRecursion (λ s. fits s ≡ true) (spans_of cs)
    × AllByRecursion IsSmall (additions (spans_of cs))
counts_within [] h = (tt, tt, tt)
counts_within (c ∷ cs) h = grind (arith, (counts_within cs h.1), each-append)

-- The text of counts whose sum is a duration is accepted with that duration.
all_accepted : (cs : List (ℕ × Suffix)) (d : ℕ) → AllPrintedSpans cs → value (spans_of cs) ≡ d
    → d / nanos_per_second ≤ u64_max
    → Accepted (chars (joined_or_zero (map (λ c. printed_count c.0 c.1) cs))) d
unfolding humantime_on_literals
all_accepted [] d h sum short = rw (← sum) (accepted_from_outcome (chars (codes "0s")) 0 refl)
all_accepted (c ∷ cs) d h sum short =
    let spans = spans_of (c ∷ cs) in
    let within = counts_within (c ∷ cs) h in
    SumOf spans (
      record {
        whitespace = [];
        body = _;
        whole = refl;
        only_whitespace = tt;
        each = counts_spell (c ∷ cs) h;
      },
      λ e. cc,
    )
    (grind (arith, within, (small_have_room (additions spans) within.2 (rw sum short)))) sum

-- The canonical text of a duration is accepted with its value.
pub canon_reads : (d : ℕ) → d / nanos_per_second ≤ u64_max → (text : List ℕ)
    → IsCanonicalText d text → Accepted (chars text) d
unfolding duration_text
canon_reads d h text canon =
    let all = shown_spans sized_units duration_end d table (omega arith) (omega arith) in
    rw (canon_is_text d text canon) (all_accepted (shown (counts_of_units sized_units d)) d all.0 all.1 h)

-- ==== Properties of printed texts, for every duration and every text.

-- A text is accepted with at most one value.
same_read : (text : List ℕ) (u v : ℕ) → Accepted text u → Accepted text v → u ≡ v
same_read text u v a b = let one = sym (outcome_accepted text u a) ∙ outcome_accepted text v b in cc

pub texts_tell_apart : (a b : ℕ) → a / nanos_per_second ≤ u64_max → b / nanos_per_second ≤ u64_max
    → (s t : List ℕ) → IsCanonicalText a s → IsCanonicalText b t → ((s ≡ t) ↔ (a ≡ b))
texts_tell_apart a b ha hb s t left right =
    grind (
      arith,
      (canon_is_text a s left),
      (canon_is_text b t right),
      (outcome_accepted (chars s) a (canon_reads a ha s left)),
      (outcome_accepted (chars t) b (canon_reads b hb t right)),
    )

-- The canonical text of an accepted text is accepted with the same value.
canonical_read : (s t : List ℕ) (h : CanonicalizesTo s t) → Accepted (chars t) h.duration
canonical_read s t h =
    canon_reads h.duration (grind (arith, h.accepted, room_is_duration)) t h.canon

pub keeps_its_value : (s : List ℕ) (v : ℕ) (t : List ℕ) → Accepted (chars s) v → CanonicalizesTo s t
    → Accepted (chars t) v
keeps_its_value s v t accepted h =
    rw (same_read (chars s) v h.duration accepted h.accepted) (canonical_read s t h)

pub keeps_its_text : (s t u : List ℕ) → CanonicalizesTo s t → (CanonicalizesTo t u ↔ (u ≡ t))
keeps_its_text s t u h = (
  (λ k.
      grind (
        arith,
        (same_read (chars t) k.duration h.duration k.accepted (canonical_read s t h)),
        (canon_is_text k.duration u k.canon),
        (canon_is_text h.duration t h.canon),
      )),
  (λ same. record { duration = h.duration; accepted = canonical_read s t h; canon = rw same h.canon }),
)
