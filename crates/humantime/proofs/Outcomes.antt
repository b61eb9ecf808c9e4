-- A text of a duration has exactly one value or one error, which the reference computes.
use Rattle.humantime.specs.Characters.{bare_zero}
use Rattle.humantime.specs.DurationErrors.{span_of, Fault, NumberOverflow, BreaksLimit, HasFault, result_view, PointsInto}
use Rattle.humantime.specs.DurationResults.{IsDurationAnswer, duration_answer}
use Rattle.humantime.specs.Durations.{SpelledSpan, Reads, value, Formed, WithinLimits, Accepted, BareZero, SumOf, total, additions_of}
use Rattle.humantime.specs.Items.{Items, AreSpansAndStop, items_of}
use Rattle.humantime.specs.Laws.{ExactlyOne, IsOutcome, IsZeroOrSpans}
use Rattle.humantime.specs.Walks.{items, sum_spans}
use Rattle.std.proofs.Common.{◌≡◌, ◌≢◌, ◌⊎◌, ◌↔◌, ℕ, List, [], ◌∷◌, ◌++◌, Option, Some, None, true, Result, Ok, Err, refl, sym, ◌∙◌, inl, inr, arith, append_assoc, sum_by, IsPermutation, IfErr, option_map, unwrap_or, bytes_eq}
use Rattle.std.proofs.lemmas.Bool.{cases_Bool}
use Rattle.std.proofs.lemmas.Grind.{common_steps}
use Rattle.std.proofs.lemmas.Slice.Eq.{bytes_eq-Decides}
use Rattle.std.specs.List.{AllByRecursion}
use Rattle.std.specs.Str.{chars}
use Rattle.std.proofs.lemmas.List.Sorted.{sum_by-IsPermutation}
use Rattle.humantime.specs.declared.duration.error.DurationError.{DurationError}
use Rattle.humantime.proofs.Sums.{spans_summed, within_from-front, within_tells, value-cons}
use Rattle.humantime.proofs.Characters.{digit_in_number}
use Rattle.humantime.proofs.Spellings.{span_has_no_fault, each-append}
use Rattle.humantime.proofs.TextWalks.{front_walked, items_found, items_walked, not_zero, one_reading, split_whole, too_large_found, walk-go}

-- ==== The result of the reference is the value or the fault of the text, and the only one.

-- The text `0`, and all other texts.
duration_answer-zero : duration_answer bare_zero ≡ Ok 0
unfolding duration_answer
duration_answer-zero = refl

pub zero_outcome : (bytes : List ℕ) → bytes_eq bytes bare_zero ≡ true
    → duration_answer (chars bytes) ≡ Ok 0
unfolding chars
zero_outcome bytes e =
    let same : bytes ≡ bare_zero = grind (arith, (bytes_eq-Decides bytes bare_zero)) in
    rw same duration_answer-zero

pub duration_answer-items : (text : List ℕ) → text ≢ bare_zero
    → duration_answer text ≡ sum_spans 0 (items_of (items text).spans (items text).stop)
unfolding duration_answer
duration_answer-items text some = grind (arith, bytes_eq-Decides)

zero_or_not : (text : List ℕ) → (text ≡ bare_zero) ⊎ (text ≢ bare_zero)
zero_or_not text =
    grind (arith, (bytes_eq-Decides text bare_zero), (cases_Bool (bytes_eq text bare_zero)))

-- Any items of a text determine its outcome.
pub outcome_summed : (text : List ℕ) (spans : List SpelledSpan) (stop : Option Fault)
    → text ≢ bare_zero → Items text spans stop
    → (WithinLimits spans × (duration_answer text ≡ unwrap_or (option_map Err stop) (Ok (value spans))))
    ⊎ (¬ (WithinLimits spans) × (duration_answer text ≡ Err NumberOverflow))
outcome_summed text spans stop some h = grind (
  arith,
  (duration_answer-items text some),
  (items_walked text spans stop h),
  (spans_summed spans stop h.formed),
)

-- No error stops the spans of a text that consists of them.
pub items_whole : (text : List ℕ) (spans : List SpelledSpan) → Reads text spans
    → AllByRecursion Formed spans → Items text spans None
items_whole text spans h f = grind (arith, (split_whole text spans h.0))

pub outcome_accepted : (text : List ℕ) (v : ℕ) → Accepted text v → duration_answer text ≡ Ok v
outcome_accepted text v (BareZero zero none) = rw (zero, none) duration_answer-zero
outcome_accepted text v (SumOf spans reads within sum) =
    grind (
      arith,
      (outcome_summed text spans None (not_zero text spans reads)
          (items_whole text spans reads within.formed)),
      sum,
    )

-- If the span at the start of the rest breaks a limit, so do the items of the text.
over_outcome : (text : List ℕ) (e : Fault) (h : HasFault text e) → BreaksLimit h.spans h.rest e
    → duration_answer text ≡ Err e
unfolding items
over_outcome text e h b =
    let walk =
    front_walked text h.front h.rest h.spans h.split h.within.formed
    (inr (inl (grind (arith, digit_in_number)))) in
    let right = walk-go text h.rest (span_has_no_fault text h.rest b.span) in
    let here = span_of h.rest ∷ [] in
    let summed =
    outcome_summed text (items text).spans (items text).stop h.not_zero (items_found text) in
    grind (
      arith,
      walk,
      right,
      summed,
      (within_from-front 0 (h.spans ++ here)),
      within_tells,
      (append_assoc h.spans here),
      (each-append Formed h.spans here),
    )

pub outcome_fault : (text : List ℕ) (e : Fault) → HasFault text e → duration_answer text ≡ Err e
outcome_fault text e h =
    grind (arith, (outcome_summed text h.spans (Some e) h.not_zero), (over_outcome text e h))

-- The items determine the value, the fault, and whether a limit is broken.
pub items_decide_value : (text : List ℕ) (spans : List SpelledSpan) (stop : Option Fault)
    → Items text spans stop → text ≢ bare_zero
    → (v : ℕ) → Accepted text v ↔ ((stop ≡ None) × WithinLimits spans × (value spans ≡ v))
items_decide_value text spans stop h some v = (
  λ a. grind (arith, (outcome_summed text spans stop some h), (outcome_accepted text v a)),
  λ d. SumOf spans (grind (arith, common_steps)) d.1 d.2,
)

pub items_decide_fault : (text : List ℕ) (spans : List SpelledSpan) (e : Fault)
    → Items text spans (Some e) → text ≢ bare_zero
    → WithinLimits spans → HasFault text e
items_decide_fault text spans e h some g = grind arith

pub accepted_from_outcome : (text : List ℕ) (v : ℕ) → duration_answer text ≡ Ok v → Accepted text v
accepted_from_outcome text v h = elim (zero_or_not text) [
  | inl z ↦ BareZero z (let p = duration_answer-zero in cc)
  | inr n ↦ let i = items_found text in
      (items_decide_value text _ _ i n v).1 (grind (arith, (outcome_summed text _ _ n i)))
]

pub fault_from_outcome : (text : List ℕ) (e : Fault) → duration_answer text ≡ Err e
    → HasFault text e
fault_from_outcome text e h =
    let i = items_found text in
    grind (
      arith,
      duration_answer-zero,
      (outcome_summed text (items text).spans (items text).stop),
      (items_decide_fault text (items text).spans e),
      i,
      too_large_found,
    )

pub items_decide_overflow : (text : List ℕ) (spans : List SpelledSpan) (stop : Option Fault)
    → Items text spans stop → text ≢ bare_zero
    → ¬ (WithinLimits spans) → HasFault text NumberOverflow
items_decide_overflow text spans stop h some b =
    fault_from_outcome text NumberOverflow (grind (arith, (outcome_summed text spans stop some h)))

-- Therefore the result of parsing is the value or the fault.
pub answer_accepts : (text : List ℕ) (r : Result ℕ Fault) → r ≡ duration_answer text → (v : ℕ)
    → (r ≡ Ok v) ↔ Accepted text v
answer_accepts text r e v =
    (λ h. accepted_from_outcome text v (sym e ∙ h), λ a. e ∙ outcome_accepted text v a)

pub answer_faults : (text : List ℕ) (r : Result ℕ Fault) → r ≡ duration_answer text → (f : Fault)
    → (r ≡ Err f) ↔ HasFault text f
answer_faults text r e f =
    (λ h. fault_from_outcome text f (sym e ∙ h), λ a. e ∙ outcome_fault text f a)

pub is_answer : (bytes : List ℕ) (r : Result ℕ DurationError)
    → result_view r ≡ duration_answer (chars bytes) → IfErr r (PointsInto bytes)
    → IsDurationAnswer bytes r
is_answer bytes r e p = search (answer_accepts, answer_faults, e, p)

outcome_is : (text : List ℕ) (r : Result ℕ Fault) → IsOutcome text r ↔ (r ≡ duration_answer text)
outcome_is text (Ok v) =
    (λ a. sym (outcome_accepted text v a), λ h. accepted_from_outcome text v (sym h))
outcome_is text (Err e) =
    (λ f. sym (outcome_fault text e f), λ h. fault_from_outcome text e (sym h))

pub exactly_one_outcome : (text : List ℕ) → ExactlyOne (IsOutcome text)
exactly_one_outcome text = (
  duration_answer text,
  (outcome_is text (duration_answer text)).1 refl,
  λ r. (outcome_is text r).0,
)

pub one_list_of_items : (text : List ℕ) → ExactlyOne (AreSpansAndStop text)
one_list_of_items text =
    (items text, items_found text, λ x h. sym (items_walked text x.spans x.stop h))

-- ==== Accepted texts and their spans.

-- An accepted text is exactly `0`, or it is spans within the limits.
pub zero_or_spans : (text : List ℕ) → IsZeroOrSpans text
zero_or_spans text = (
  λ some.
      grind (arith, (some)),
  λ is.
      elim is [
        | inl zero ↦ (0, BareZero zero refl)
        | inr found ↦
            (value found.0, SumOf found.0 found.1 found.2 refl)
      ],
)

-- The value of an accepted text of spans is their sum, and they are within the limits.
pub accepted_spans : (text : List ℕ) (spans : List SpelledSpan) (v : ℕ) → Reads text spans
    → Accepted text v → WithinLimits spans × (value spans ≡ v)
accepted_spans text spans v h (BareZero z none) = absurd (not_zero text spans h z)
accepted_spans text spans v h (SumOf others k within sum) =
    rw (one_reading text spans others h k) (within, sum)

-- The value of spans is the sum of what each adds, so their order does not matter.
value-sum : (spans : List SpelledSpan) → value spans ≡ sum_by (λ s. total (additions_of s)) spans
value-sum [] = refl
value-sum (s ∷ ss) = grind (arith, common_steps, (value-cons s ss), (value-sum ss))

pub reordered_value : (a b : List ℕ) (ss ts : List SpelledSpan) (u v : ℕ) → Reads a ss → Reads b ts
    → IsPermutation ss ts
    → Accepted a u → Accepted b v → u ≡ v
reordered_value a b ss ts u v h k moved x y = grind (
  arith,
  (accepted_spans a ss u h x),
  (accepted_spans b ts v k y),
  value-sum,
  sum_by-IsPermutation,
)
