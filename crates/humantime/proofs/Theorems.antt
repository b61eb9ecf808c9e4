-- The theorems that callers cite: the laws over plain variables, each under the name of its
-- function in `laws`, and some others.
use Rattle.humantime.specs.DurationErrors.{Fault, NumberOverflow, result_view, fault_of}
use Rattle.humantime.specs.DurationResults.{item_views, duration_text, duration_answer, canonical_answer}
use Rattle.humantime.specs.Durations.{SpelledSpan, additions, Formed, fits, Accepted, BareZero, SumOf}
use Rattle.humantime.specs.Items.{AreItems, SpanView}
use Rattle.humantime.specs.Laws.{ExactlyOne, HasOneOutcome, ItemsDecide, ItemsTile, PrintsAndReads, TextsTellApart, PrintsWithinBounds, IsCanonicalAgain, OlderFormed, older_additions, AcceptedWithZeros, OlderZero, OlderSum, KeepsValueWithZeros, AreReordered, KeepsValueWithoutWhitespace, AddWhenJoined, KeepValueReordered, HasOneTimestamp, StrictIsWeak, MomentPrintsAndReads}
use Rattle.humantime.specs.PrintedDurations.{IsCanonicalText}
use Rattle.humantime.specs.TimestampResults.{printed_text, weak_answer, strict_answer}
use Rattle.humantime.specs.Timestamps.{IsWeak, IsStrict, weak_checks, strict_checks, MomentToPrint, cut, IsPrinted, IsPrintedWith, IsPrintable}
use Rattle.humantime.specs.Values.{duration_end}
use Rattle.std.proofs.Common.{rules, ◌≡◌, ℕ, ◌<◌, List, Result, chars, refl, sym, ◌∙◌, arith, true, [], ◌∷◌, ◌+◌, ◌++◌, inl, inr, ◌≤◌, ◌-◌, ◌/◌, ◌^◌, ◌↔◌, Ok, IsTrue, ℤ, pos, negsuc, ◌≤ℤ◌, ◌<ℤ◌, IfSome, nat_cmp, int_cmp, is_le, is_lt}
use Rattle.std.proofs.Math.Nat.{mul-mod_right, div-add-mod}
use Rattle.std.proofs.lemmas.Bool.Decides.{nat_tests}
use Rattle.std.proofs.lemmas.Grind.{common_steps}
use Rattle.std.proofs.lemmas.Int.{ints}
use Rattle.std.proofs.lemmas.Slice.Eq.{bytes_eq-Decides}
use Rattle.std.specs.Cmp.Lexicographic.{slice_cmp}
use Rattle.std.specs.List.{AllByRecursion}
use Rattle.humantime.specs.declared.duration.error.DurationError.{DurationError}
use Rattle.humantime.proofs.Items.{are_items, first_error_answers, front_tiled, one_span_view, text_tiled}
use Rattle.humantime.proofs.Outcomes.{accepted_from_outcome, answer_accepts, answer_faults, exactly_one_outcome, items_decide_fault, items_decide_overflow, items_decide_value, one_list_of_items, outcome_accepted, outcome_fault, reordered_value, zero_or_spans}
use Rattle.humantime.proofs.Characters.{significant_shorter, exact_fraction_kept, amount_kept}
use Rattle.humantime.proofs.TextWalks.{not_zero, one_reading}
pub use Rattle.humantime.proofs.PrintedTimestamps.{printed_some, stamps_in_order, weak_printable, strict_printable, places_of_bound}
use Rattle.humantime.proofs.PrintedTimestamps.{text_displayed, printed_reads, one_text}
pub use Rattle.humantime.proofs.Dates.{one_date, day_at_most}
pub use Rattle.humantime.proofs.Counts.{printed_is_canon}
use Rattle.humantime.proofs.Counts.{canon_is_text, canon_length, counts_small}
use Rattle.humantime.specs.contracts.duration.error.DurationErrorPartialEq.TheImpl
use Rattle.humantime.proofs.CanonicalTexts.{answer_is_canonical, answer_is_fault, canon_reads, keeps_its_text, keeps_its_value, texts_tell_apart}
use Rattle.humantime.proofs.JoinedTexts.{accepted_without_whitespace, joined_room, joined_sum_or_overflow}
use Rattle.humantime.proofs.TimestampOutcomes.{strict_is_marked_weak, strict_moment_is_weak, strict_outcome, weak_outcome}

-- ==== The laws of durations as theorems over plain variables, each under its name in `laws`.

pub one_outcome : (text : List ℕ) → HasOneOutcome text
one_outcome text = search (rules, exactly_one_outcome, one_reading, one_list_of_items, answer_accepts, answer_faults)

pub spans_decide : (text : List ℕ) → ItemsDecide text
spans_decide text = search (
  rules,
  one_list_of_items,
  items_decide_value,
  items_decide_fault,
  first_error_answers,
  items_decide_overflow,
)

pub spans_tile : (text : List ℕ) → ItemsTile text
spans_tile text =
    let only = one_span_view text in
    let one : ExactlyOne (AreItems text) = (item_views text, are_items text, only) in
    let same =
    λ (xs ys : List (Result SpanView Fault)) (a : AreItems text xs) (b : AreItems text ys). only
    ys b ∙ sym (only xs a) in
    search (rules, one, same, front_tiled, text_tiled)

-- If the view of a result is a value, so is the result.
pub value_of_view : (r : Result ℕ DurationError) (v : ℕ) → result_view r ≡ Ok v → r ≡ Ok v
value_of_view r v h = grind arith

-- Two errors are equal if and only if their faults are.
pub errors_equal : (e f : DurationError) → IsTrue (TheImpl.ghosts.eq e f)
    ↔ (fault_of e ≡ fault_of f)
errors_equal e f = grind (arith, nat_tests, bytes_eq-Decides)

pub printed_duration_reads : (d : ℕ) → d < duration_end → PrintsAndReads d
printed_duration_reads d fits =
    let one : ExactlyOne (IsCanonicalText d) =
    (duration_text d, printed_is_canon d, canon_is_text d) in
    search (rules, one, (canon_reads d (omega arith)), outcome_accepted)

pub text_reads : (d : ℕ) → d < duration_end → duration_answer (chars (duration_text d)) ≡ Ok d
text_reads d fits = (printed_duration_reads d fits).answer

pub printed_durations_differ : (a b : ℕ) → a < duration_end → b < duration_end → TextsTellApart a b
printed_durations_differ a b fits_a fits_b =
    search (rules, (texts_tell_apart a b (omega arith) (omega arith)), printed_is_canon)

pub printed_bounds : (d : ℕ) → d < duration_end → PrintsWithinBounds d
printed_bounds d fits = record { length = canon_length d (omega arith); counts = counts_small d }

pub canonical_again : (s : List ℕ) → IsCanonicalAgain s
canonical_again s =
    let text = answer_is_canonical s (canonical_answer (chars s)) refl in
    record {
      some = λ v accepted. (
        duration_text v,
        record { duration = v; accepted = accepted; canon = printed_is_canon v },
      );
      value = keeps_its_value s;
      again = keeps_its_text s;
      answer =
          λ t h. (answer_is_canonical t (canonical_answer (chars t)) refl t).1
          ((keeps_its_text s t t ((text t).0 h)).1 refl);
      reads =
          λ v t read h.
          outcome_accepted (chars t) v (keeps_its_value s v t
          ((answer_accepts (chars s) (duration_answer (chars s)) refl v).0 read)
          ((text t).0 h));
      text = text;
      fault = answer_is_fault s (canonical_answer (chars s)) refl;
    }

-- ==== Texts that were accepted while trailing zeros of fractions counted.

all_added : (spans : List SpelledSpan) → older_additions spans ≡ additions spans
all_added [] = refl
all_added (s ∷ spans) = grind (arith, common_steps, amount_kept, (all_added spans))

still_within : (spans : List SpelledSpan) → AllByRecursion OlderFormed spans
    → AllByRecursion Formed spans × AllByRecursion (λ s. fits s ≡ true) spans
still_within [] older = (tt, tt)
still_within (s ∷ spans) older =
    grind (
      arith,
      common_steps,
      significant_shorter,
      exact_fraction_kept,
      (still_within spans older.1),
    )

zeros_still_accepted : (text : List ℕ) (v : ℕ) → AcceptedWithZeros text v → Accepted text v
zeros_still_accepted text v (OlderZero e z) = BareZero e z
zeros_still_accepted text v (OlderSum spans h older room sum) =
    SumOf spans h (grind (arith, (still_within spans older), (all_added spans), room)) (rw (all_added spans) at sum)

pub still_accepted : (text : List ℕ) → KeepsValueWithZeros text
still_accepted text =
    let answer = λ (v : ℕ) (a : AcceptedWithZeros text v). outcome_accepted text v (zeros_still_accepted text v a) in
    record {
      value = zeros_still_accepted text;
      answer = answer;
      read = λ was. rw (answer was.0 was.1) refl;
      added = all_added;
    }

-- ==== The laws of accepted texts as theorems over plain variables, each under its name in `laws`,
-- and other theorems.

pub without_ws : (text : List ℕ) → KeepsValueWithoutWhitespace text
without_ws text =
    search (rules, accepted_without_whitespace, outcome_accepted, accepted_from_outcome)

pub joined : (a b : List ℕ) → AddWhenJoined a b
joined a b = record {
  first = zero_or_spans a;
  second = zero_or_spans b;
  sum = λ ss ts u v h k. (joined_room a b ss ts u v h k).0;
  overflow = λ ss ts u v h k. (joined_room a b ss ts u v h k).1;
  one = joined_sum_or_overflow a b;
  answer = λ u v x y some_a some_b.
      elim (joined_sum_or_overflow a b u v (accepted_from_outcome a u x)
      (accepted_from_outcome b v y) some_a some_b) [
        | inl sum ↦ inl (outcome_accepted (a ++ b) (u + v) sum)
        | inr f ↦ inr (outcome_fault (a ++ b) NumberOverflow f)
      ];
}

pub reordered : (a b : List ℕ) → KeepValueReordered a b
reordered a b =
    let alike = λ (r : AreReordered a b) (u v : ℕ). reordered_value a b r.spans r.others u v r.reads
    r.other_reads r.moved in
    search (rules, reordered_value, alike, accepted_from_outcome, not_zero)

-- ==== The laws of timestamps and days as theorems over plain variables, each under its name in
-- `laws`, and others that callers cite.

pub one_stamp_outcome : (text : List ℕ)
    → HasOneTimestamp (weak_checks text) (IsWeak text) (weak_answer text)
    × HasOneTimestamp (strict_checks text) (IsStrict text) (strict_answer text)
one_stamp_outcome text = (weak_outcome text, strict_outcome text)

pub strict_is_weak : (text : List ℕ) → StrictIsWeak text
strict_is_weak text =
    let law = strict_moment_is_weak text in
    let in_weak = (weak_outcome text).value in
    let in_strict = (strict_outcome text).value in
    record {
      fields = strict_is_marked_weak text;
      moment = law;
      weak = λ t given. (in_weak t).1 ((law t).0 ((in_strict t).0 given)).0;
      marked = λ t given. ((law t).0 ((in_strict t).0 given)).1;
      strict = λ t given marked. (in_strict t).1 ((law t).1 ((in_weak t).0 given, marked));
    }

-- The result of parsing a printed text.
pub printed_read : (t : ℤ) (k : ℕ) (text : List ℕ) → IsPrinted t k text
    → strict_answer text ≡ Ok (cut t k)
printed_read t k text printed =
    ((strict_outcome text).value (cut t k)).1 (printed_reads t k text printed).strict

pub printed_moment_reads : (t : ℤ) (k : ℕ) → k ≤ 9 → MomentPrintsAndReads t k
printed_moment_reads t k small = record {
  one = λ h. let some = printed_some t k small h in
      (some.0, some.2, λ other p. one_text t k other some.0 p some.2);
  displayed = λ text. text_displayed t k text small;
  reads = printed_reads t k;
  strict = printed_read t k;
  weak =
      λ text printed. ((weak_outcome text).value (cut t k)).1 (printed_reads t k text printed).weak;
  whole = grind (arith, ints);
}

-- What `Display` wrote for a timestamp that is known.
pub displayed_as : (x : MomentToPrint) (t : ℤ) (k : ℕ) (bytes : List ℕ) → x.moment ≡ t
    → x.places ≡ k → IsPrintable t
    → IfSome (printed_text x) (λ text. bytes ≡ text) → IsPrinted t k bytes
displayed_as x t k bytes same digits within written =
    rw (← same, ← digits) (grind (arith, (printed_some x.moment x.places x.few (rw same within))))

-- Rounding down twice is rounding down once.
cut_again : (t : ℤ) (k n : ℕ) → pos n ≡ cut t k → cut (pos n) k ≡ pos n
cut_again (pos m) k n is =
    grind (arith, ints, (div-add-mod m (10 ^ (9 - k))), (mul-mod_right (10 ^ (9 - k)) (m / 10 ^ (9 - k))))
cut_again (negsuc m) k n is = absurd (omega (arith, ints, is))

-- A text is a printed text if and only if it is that of the moment that it parses to.
pub printed_if_read_back : (k : ℕ) (text : List ℕ) → IsPrintedWith k text
    ↔ ((t : ℤ) × (strict_answer text ≡ Ok t) × IsPrinted t k text)
printed_if_read_back k text = (
  (λ p. (cut p.0 k, printed_read p.0 k text p.1, grind (arith, cut_again, p))),
  (λ p. (p.0, p.2)),
)

-- Two printed texts with the same number of digits compare, byte by byte, like the moments that
-- they parse to.
pub texts_in_order : (k : ℕ) (x y : List ℕ) (a b : ℤ) → IsPrintedWith k x → IsPrintedWith k y
    → strict_answer x ≡ Ok a → strict_answer y ≡ Ok b
    → slice_cmp nat_cmp x y ≡ int_cmp a b
texts_in_order k x y a b p q left right =
    grind (arith, printed_read p.0 k x p.1, printed_read q.0 k y q.1, stamps_in_order p.0 q.0 k x y p.1 q.1)

-- The order of two moments as an inequality.
order_of_moments : (a b : ℤ)
    → (IsTrue (is_le (int_cmp a b)) ↔ (a ≤ℤ b)) × (IsTrue (is_lt (int_cmp a b)) ↔ (a <ℤ b))
order_of_moments a b = grind (arith, ints)

-- A printed text is between two others, including the first of them, if and only if its moment is
-- between theirs.
pub stamps_between : (a b t : ℤ) (k : ℕ) (x y text : List ℕ) → IsPrinted a k x → IsPrinted b k y
    → IsPrinted t k text
    → (IsTrue (is_le (slice_cmp nat_cmp x text)) × IsTrue (is_lt (slice_cmp nat_cmp text y)))
    ↔ ((u : ℤ) × (strict_answer text ≡ Ok u) × (cut a k ≤ℤ u) × (u <ℤ cut b k))
stamps_between a b t k x y text first second printed =
    let lower = stamps_in_order a t k x text first printed in
    let upper = stamps_in_order t b k text y printed second in
    grind (arith, (printed_read t k text printed), lower, upper, order_of_moments)

-- The order of bytes for each number of digits that a printer prints. A caller that compares texts
-- is proved with `using` one of these, and needs no proof by hand.
earlier : (a b : ℤ) (k : ℕ) (x y : List ℕ) → IsPrinted a k x → IsPrinted b k y
    → (cut a k <ℤ cut b k) ↔ IsTrue (is_lt (slice_cmp nat_cmp x y))
earlier a b k x y p q =
    grind (arith, (stamps_in_order a b k x y p q), (order_of_moments (cut a k) (cut b k)))

pub earlier_in_millis : (a b : ℤ) (x y : List ℕ) → IsPrinted a 3 x → IsPrinted b 3 y
    → (cut a 3 <ℤ cut b 3) ↔ IsTrue (is_lt (slice_cmp nat_cmp x y))
earlier_in_millis a b x y = earlier a b 3 x y

-- With nine digits nothing is rounded.
pub earlier_in_nanos : (a b : ℤ) (x y : List ℕ) → IsPrinted a 9 x → IsPrinted b 9 y → (a <ℤ b)
    ↔ IsTrue (is_lt (slice_cmp nat_cmp x y))
earlier_in_nanos a b x y p q = grind (arith, ints, (earlier a b 9 x y p q))

-- What printed texts promise, and the order of printed moments.
pub ruleset printed_texts = (printed_is_canon, text_reads)

pub ruleset moments_in_order = (stamps_in_order, earlier_in_nanos)
