-- The value of a text without whitespace, and of two texts that are joined.
use Rattle.humantime.specs.Characters.{is_whitespace, is_letter, digits, is_point, is_digit, bare_zero}
use Rattle.humantime.specs.DurationErrors.{NumberOverflow, HasFault}
use Rattle.humantime.specs.Durations.{SpelledSpan, HasOnly, Spells, SpellsSpans, SpellsFront, Reads, Accepted, BareZero, SumOf, additions, value, Formed, fits, AllHaveRoom, additions_of}
use Rattle.humantime.specs.Laws.{without_whitespace, AcceptedAs}
use Rattle.std.proofs.Common.{◌≡◌, ℕ, Bool, List, [], ◌∷◌, refl, arith, ◌≢◌, ◌↔◌, ◌⊎◌, ◌+◌, true, ◌++◌, None, inl, inr, append_assoc, append-nil}
use Rattle.std.proofs.lemmas.Bool.{or_parts}
use Rattle.std.proofs.lemmas.Grind.{common_steps, flat_map-append}
use Rattle.std.proofs.lemmas.List.Sums.{sum_by-append}
use Rattle.std.specs.List.{AllByRecursion}
use Rattle.humantime.proofs.Characters.{digit_not_whitespace, letter_not_whitespace, point_not_in_number}
use Rattle.humantime.proofs.TextWalks.{not_zero}
use Rattle.humantime.proofs.Spellings.{each-append, respelled, spells-append, spells_spans-append}
use Rattle.humantime.proofs.Sums.{within_or_beyond}
use Rattle.humantime.proofs.Outcomes.{items_whole, items_decide_overflow, outcome_accepted, outcome_fault, accepted_spans}

-- ==== A text without its whitespace represents the same spans.

-- Whitespace is removed, and each other character is kept.
kept : (cs : List ℕ) → (digits (without_whitespace cs) ≡ digits cs)
    × (HasOnly is_whitespace cs → without_whitespace cs ≡ [])
    × (HasOnly is_letter cs → without_whitespace cs ≡ cs)
kept [] = (refl, λ h. refl, λ h. refl)
kept (c ∷ cs) = grind (arith, letter_not_whitespace, digit_not_whitespace, (kept cs))

still_only : (p : ℕ → Bool) (cs : List ℕ) → HasOnly p cs → HasOnly p (without_whitespace cs)
still_only p [] h = tt
still_only p (c ∷ cs) h = grind (arith, (still_only p cs h.1))

spells_span : (text rest : List ℕ) (span : SpelledSpan) → Spells text span rest
    → Spells (without_whitespace text) span (without_whitespace rest)
unfolding is_point
spells_span text rest span h =
    grind (
      arith,
      common_steps,
      kept,
      (kept h.number_text),
      (kept h.whitespace),
      (kept span.word),
      still_only,
      digit_not_whitespace,
      or_parts,
      point_not_in_number,
    )

spells_spans : (body : List ℕ) (spans : List SpelledSpan) → SpellsSpans body spans
    → SpellsSpans (without_whitespace body) spans
spells_spans body [] h = grind arith
spells_spans body (s ∷ ss) h = grind (arith, spells_span, (spells_spans h.0 ss h.2))

pub accepted_without_whitespace : (text : List ℕ) (v : ℕ) → Accepted text v
    → Accepted (without_whitespace text) v
unfolding is_digit
accepted_without_whitespace text v (BareZero z none) =
    BareZero (rw (z, digit_not_whitespace 48 refl) refl) none
accepted_without_whitespace text v (SumOf spans reads within sum) =
    SumOf spans (grind (arith, common_steps, (kept reads.0.whitespace), spells_spans, reads)) within
    sum

-- ==== Joined texts.

-- Whitespace after a span belongs to it.
spells_spans-whitespace : (body whitespace : List ℕ) (s : SpelledSpan) (ss : List SpelledSpan)
    → SpellsSpans body (s ∷ ss) → HasOnly is_whitespace whitespace
    → SpellsSpans (body ++ whitespace) (s ∷ ss)
spells_spans-whitespace body whitespace s [] h only = (
  [],
  grind (
    arith,
    (respelled body h.0 (body ++ whitespace) [] (h.1.whitespace ++ whitespace) s h.1),
    append_assoc,
    append-nil,
    each-append,
  ),
  refl,
)
spells_spans-whitespace body whitespace s (t ∷ ts) h only = (
  h.0 ++ whitespace,
  spells-append body h.0 whitespace s h.1,
  spells_spans-whitespace h.0 whitespace t ts h.2 only,
)

-- Spans followed by spans.
front-append : (a b : List ℕ) (ss ts : List SpelledSpan) → Reads a ss → SpellsFront b ts
    → Reads (a ++ b) (ss ++ ts)
front-append a b [] ts h k = absurd (h.1 refl)
front-append a b (s ∷ ss) ts h k =
    let each =
    spells_spans-append _ k.body (s ∷ ss) ts
    (spells_spans-whitespace h.0.body k.whitespace s ss h.0.each k.only_whitespace) k.each in
    grind (arith, append_assoc, h.0.whole, k.whole, each)

-- The text is any whitespace followed by one or more spans with this value that keep all limits
-- except for that of their sum.
abbrev AreSpans : List ℕ → List SpelledSpan → ℕ → Type 0
AreSpans text spans v = Reads text spans × AllByRecursion Formed spans
    × AllByRecursion (λ s. fits s ≡ true) spans × (value spans ≡ v)

-- Such a text is accepted if and only if no addition overflows, and its fault is an overflow if and
-- only if an addition overflows.
room_decides : (text : List ℕ) (spans : List SpelledSpan) (v : ℕ) → AreSpans text spans v
    → (Accepted text v ↔ AllHaveRoom (additions spans))
    × (HasFault text NumberOverflow ↔ ¬ (AllHaveRoom (additions spans)))
room_decides text spans v h =
    let accepted = λ (room : AllHaveRoom (additions spans)).
    SumOf spans h.0 (record { formed = h.1; fit = h.2; room = room }) h.3 in
    let overflow = items_decide_overflow text spans None (items_whole text spans h.0 h.1)
    (not_zero text spans h.0) in (
      (λ a. (accepted_spans text spans v h.0 a).0.room, accepted),
      (
        λ f room.
            grind (
              arith,
              (outcome_accepted text v (accepted room)),
              (outcome_fault text NumberOverflow f),
            ),
        λ none. overflow (λ g. none g.room),
      ),
    )

both_spans : (a b : List ℕ) (ss ts : List SpelledSpan) (u v : ℕ) → AcceptedAs a ss u
    → AcceptedAs b ts v → AreSpans (a ++ b) (ss ++ ts) (u + v)
both_spans a b ss ts u v h k =
    grind (
      arith,
      (accepted_spans a ss u h.0 h.1),
      (accepted_spans b ts v k.0 k.1),
      (front-append a b ss ts h.0 k.0.0),
      each-append,
      flat_map-append,
      sum_by-append,
    )

pub joined_room : (a b : List ℕ) (ss ts : List SpelledSpan) (u v : ℕ) → AcceptedAs a ss u
    → AcceptedAs b ts v
    → (Accepted (a ++ b) (u + v) ↔ AllHaveRoom (additions ss ++ additions ts))
    × (HasFault (a ++ b) NumberOverflow ↔ ¬ (AllHaveRoom (additions ss ++ additions ts)))
joined_room a b ss ts u v h k =
    rw (← flat_map-append additions_of ss ts)
    (room_decides (a ++ b) (ss ++ ts) (u + v) (both_spans a b ss ts u v h k))

pub joined_sum_or_overflow : (a b : List ℕ) (u v : ℕ) → Accepted a u → Accepted b v → a ≢ bare_zero
    → b ≢ bare_zero
    → Accepted (a ++ b) (u + v) ⊎ HasFault (a ++ b) NumberOverflow
joined_sum_or_overflow a b u v (BareZero z none) y some_a some_b = absurd (some_a z)
joined_sum_or_overflow a b u v (SumOf ss h g p) (BareZero z none) some_a some_b = absurd (some_b z)
joined_sum_or_overflow a b u v (SumOf ss h g p) (SumOf ts k l q) some_a some_b =
    let both = both_spans a b ss ts u v (h, SumOf ss h g p) (k, SumOf ts k l q) in
    let room = room_decides (a ++ b) (ss ++ ts) (u + v) both in
    elim (within_or_beyond (ss ++ ts) both.1) [
      | inl g ↦ inl (room.0.1 g.room)
      | inr bad ↦ inr (room.1.1 (λ all. bad (record { formed = both.1; fit = both.2; room = all })))
    ]
