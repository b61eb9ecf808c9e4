-- A moment has one printed text, and texts are ordered like their moments.
use Rattle.humantime.specs.Calendar.{IsDate, day_of}
use Rattle.humantime.specs.Laws.{PrintInOrder, ReadsAs}
use Rattle.humantime.specs.PrivateFunctions.{IsDateAndSecondOf}
use Rattle.humantime.specs.TimestampResults.{last_digits, printed_fields, fields_at, moment_text, printed_text}
use Rattle.humantime.specs.Timestamps.{MomentToPrint, IsWeakMoment, IsStrictMoment, fraction_nanos, fraction_digits, Letter_T, Letter_Z, Fields, fields_text, fraction_text, moment_of, IsPrintable, IsPrinted, places_of, cut, year_10000}
use Rattle.humantime.specs.Values.{nano_of}
use Rattle.std.proofs.Common.{arith, ℕ, List, ◌≡◌, zero, suc, true, eqb, ◌+◌, ◌*◌, ◌/◌, ◌%◌, ◌<◌, ◌≤◌, [], ◌∷◌, ◌++◌, take, drop, length, get_or, refl, ap, ◌-◌, ◌^◌, ◌∙◌, sym, ℤ, codes, slice_set, Some, None, ◌==◌, if◌then◌else◌, min, Option, option_map, pos, ◌↔◌, negsuc, nat_abs, IsAscii, IsSome, IfSome, pow-add, Ordering, nat_cmp, int_cmp, eqb-true, lt-ltb}
use Rattle.std.proofs.Math.Nat.{suc-add, pow-suc, one-le-pow, mod-mod_of_dvd, dvd-mul_left, mod-le, mul-le-mul_right}
use Rattle.std.proofs.lemmas.Bool.{agree_below_at}
use Rattle.std.proofs.lemmas.Bool.Decides.{nat_tests}
use Rattle.std.proofs.lemmas.Grind.{common_steps}
use Rattle.std.proofs.lemmas.Int.{ints}
use Rattle.std.proofs.lemmas.Option.{same_Some}
use Rattle.std.proofs.lemmas.Str.{digit_value_digit}
use Rattle.std.specs.Char.{digit_value}
use Rattle.std.specs.Cmp.Lexicographic.{slice_cmp}
use Rattle.std.specs.List.{AllByRecursion}
use Rattle.std.specs.Ordering.{ordering_then}
use Rattle.std.specs.Str.Parse.{digits_value_after}
use Rattle.std.proofs.Math.Arith.{mod-mul}
use Rattle.std.specs.FinMap.{slice_cmp-IsAntisymmetric, nat_cmp-IsAntisymmetric}
use Rattle.humantime.specs.declared.calendar.Date.{Date}
use Rattle.humantime.proofs.Dates.{day_at_most, before_later, valid_from_test, date_of_is}
use Rattle.humantime.proofs.TimestampParts.{nanos_bound, digits_from_test, AreDigits, add_digits, nanos_added, digits_from, holds_before_zone}

-- ==== A moment that a text represents is in 1970 to 9999, so it can be printed.

pub weak_printable : (text : List ℕ) (moment : ℤ) → IsWeakMoment text moment → IsPrintable moment
weak_printable text moment m =
    grind (arith, common_steps, ints, day_at_most, nanos_bound, digits_from_test)

pub strict_printable : (text : List ℕ) (moment : ℤ) → IsStrictMoment text moment
    → IsPrintable moment
strict_printable text moment m = weak_printable text moment (m.0, m.1.weak, m.2)

-- ==== The table of the two-digit texts of the numbers below 100.

abbrev pairs : List ℕ
pairs = codes "00010203040506070809101112131415161718192021222324252627282930313233343536373839404142434445464748495051525354555657585960616263646566676869707172737475767778798081828384858687888990919293949596979899"

pub tens_at : (n i : ℕ) → i ≡ 2 * n → n < 100 → get_or pairs i 0 ≡ 48 + n / 10
tens_at n i e h = rw e (eqb-true _ _
    (agree_below_at (λ k. eqb (get_or pairs (2 * k) 0) (48 + k / 10)) (λ k. true) 100 n refl h))

pub ones_at : (n i : ℕ) → i ≡ 2 * n + 1 → n < 100 → get_or pairs i 0 ≡ 48 + n % 10
ones_at n i e h =
    rw e (eqb-true _ _ (agree_below_at (λ k. eqb (get_or pairs (2 * k + 1) 0) (48 + k % 10))
    (λ k. true) 100 n refl h))

-- Writing two bytes, one after the other.
pub two_set : (at : ℕ) (xs : List ℕ) (a b : ℕ) → at + 2 ≤ length xs
    → slice_set (slice_set xs at a) (at + 1) b ≡ take at xs ++ (a ∷ b ∷ []) ++ drop (at + 2) xs
two_set zero (x ∷ y ∷ ys) a b h = refl
two_set (suc at) (x ∷ xs) a b h =
    rw (suc-add at 1, suc-add at 2) (ap (λ (ys : List ℕ). x ∷ ys) (two_set at xs a b (omega arith)))
two_set at xs a b h = absurd (omega arith)

-- The same two bytes, the second one first.
pub two_set_back : (at : ℕ) (xs : List ℕ) (a b : ℕ) → at + 2 ≤ length xs
    → slice_set (slice_set xs (at + 1) b) at a ≡ take at xs ++ (a ∷ b ∷ []) ++ drop (at + 2) xs
two_set_back zero (x ∷ y ∷ ys) a b h = refl
two_set_back (suc at) (x ∷ xs) a b h =
    rw (suc-add at 1, suc-add at 2)
    (ap (λ (ys : List ℕ). x ∷ ys) (two_set_back at xs a b (omega arith)))
two_set_back at xs a b h = absurd (omega arith)

-- The lemmas about two digits that are written one by one, in either order.
pub ruleset pair_written = (two_set, two_set_back, tens_at, ones_at)

-- ==== The digits of a fraction: the first `k` of nine are the nanoseconds, rounded down to `k`
-- digits.

-- The first `k` of the last `j` digits, each with its weight, and the remainder.
sum_of_digits : (k j n a : ℕ) → k ≤ j
    → add_digits a (10 ^ j / 10) (take k (last_digits j n)) + n % 10 ^ (j - k) ≡ a + n % 10 ^ j
sum_of_digits zero j n a h = grind arith
sum_of_digits (suc k) zero n a h = absurd (omega arith)
sum_of_digits (suc k) (suc j) n a h = grind (
  arith,
  (pow-suc 10 j),
  one-le-pow,
  mod-mul,
  (sum_of_digits k j n (a + 10 ^ j * (n / 10 ^ j % 10))),
)

pub last_are_digits : (k j n : ℕ) → AreDigits (take k (last_digits j n))
last_are_digits (suc k) (suc j) n = ((omega arith, omega arith), last_are_digits k j n)
last_are_digits k j n = tt

-- The fraction that is printed for `n` nanoseconds, with `k` digits.
pub shown_nanos : (k n : ℕ) → k ≤ 9 → n < 1_000_000_000
    → fraction_nanos (fraction_digits (if k == 0 then None else Some (take k (last_digits 9 n))))
    ≡ n - n % 10 ^ (9 - k)
shown_nanos k n small h = grind (
  arith,
  (sum_of_digits k 9 n 0 small),
  (nanos_added (take k (last_digits 9 n)) (last_are_digits k 9 n)),
)

-- Rounding a moment down rounds its nanoseconds down.
pub cut_nanos : (k t : ℕ) → k ≤ 9 → t % 1_000_000_000 % 10 ^ (9 - k) ≡ t % 10 ^ (9 - k)
cut_nanos k t small =
    let power : 1_000_000_000 ≡ 10 ^ k * 10 ^ (9 - k) = grind (arith, (pow-add 10 k (9 - k))) in
    mod-mod_of_dvd (10 ^ (9 - k)) t (rw power (dvd-mul_left (10 ^ (9 - k)) (10 ^ k)))

-- ==== Printed texts are ordered like their moments.

abbrev then_cmp : ℕ → ℕ → Ordering → Ordering
then_cmp m n o = ordering_then (nat_cmp m n) o

-- A number followed by one below `w`, as one number.
pair_cmp : (w m n x y : ℕ) → x < w → y < w
    → then_cmp m n (nat_cmp x y) ≡ nat_cmp (m * w + x) (n * w + y)
pair_cmp w m n x y h k = grind (
  arith,
  nat_tests,
  (mul-le-mul_right {m = suc m} {n = n} w),
  (mul-le-mul_right {m = suc n} {n = m} w),
)

two_digits_cmp : (m n : ℕ) (o : Ordering)
    → then_cmp (48 + m / 10) (48 + n / 10) (then_cmp (48 + m % 10) (48 + n % 10) o) ≡ then_cmp m n o
two_digits_cmp m n o = grind (arith, common_steps)

four_digits_cmp : (m n : ℕ) (o : Ordering)
    → then_cmp (48 + m / 1000) (48 + n / 1000) (then_cmp (48 + m / 100 % 10) (48 + n / 100 % 10)
    (then_cmp (48 + m / 10 % 10) (48 + n / 10 % 10) (then_cmp (48 + m % 10) (48 + n % 10) o)))
    ≡ then_cmp m n o
four_digits_cmp m n o = grind (arith, nat_tests)

after_cmp : (ds : List ℕ) (m n : ℕ)
    → nat_cmp m n ≡ nat_cmp (digits_value_after 10 m ds) (digits_value_after 10 n ds)
after_cmp [] m n = refl
after_cmp (c ∷ cs) m n =
    grind (arith, common_steps, (after_cmp cs (m * 10 + digit_value c) (n * 10 + digit_value c)))

-- The same number of digits, padded with others.
filled_cmp : (k : ℕ) (ds es zs ws : List ℕ) (m n : ℕ) → AreDigits ds → AreDigits es
    → length ds ≡ length es → length ds ≤ k
    → ordering_then (nat_cmp m n) (slice_cmp nat_cmp (ds ++ ws) (es ++ ws))
    ≡ ordering_then (nat_cmp (digits_value_after 10 m (take k (ds ++ zs)))
    (digits_value_after 10 n (take k (es ++ zs)))) (slice_cmp nat_cmp ws ws)
filled_cmp k [] [] zs ws m n d e long room =
    ap (λ (c : Ordering). ordering_then c (slice_cmp nat_cmp ws ws)) (after_cmp (take k zs) m n)
filled_cmp (suc k) (x ∷ xs) (y ∷ ys) zs ws m n d e long room =
    grind (
      arith,
      nat_tests,
      digit_value_digit,
      (filled_cmp k xs ys zs ws (m * 10 + digit_value x) (n * 10 + digit_value y) d.1 e.1),
    )
filled_cmp k ds es zs ws m n d e long room = absurd (omega arith)

fraction_cmp : (k : ℕ) (p q : Option (List ℕ)) → k ≤ 9
    → option_map length p ≡ (if k == 0 then None else Some k)
    → option_map length q ≡ (if k == 0 then None else Some k)
    → AreDigits (fraction_digits p) → AreDigits (fraction_digits q)
    → slice_cmp nat_cmp (fraction_text p ++ codes "Z") (fraction_text q ++ codes "Z")
    ≡ nat_cmp (fraction_nanos (fraction_digits p)) (fraction_nanos (fraction_digits q))
unfolding fraction_nanos
fraction_cmp k p q h e f g i = grind (
  arith,
  (filled_cmp 9 (fraction_digits p) (fraction_digits q) (codes "000000000") (codes "Z") 0 0),
)

-- Dates are ordered like their days.
day_cmp : (a b : Date) (o : Ordering) → IsDate a → IsDate b
    → then_cmp a.year b.year (then_cmp a.month b.month (then_cmp a.day b.day o)) ≡ then_cmp (day_of a) (day_of b) o
day_cmp a b o va vb =
    grind (arith, nat_tests, valid_from_test, (before_later a va), (before_later b vb))

-- The text of fields with `T` and `Z`.
abbrev marked : Fields → List ℕ
marked f = fields_text (record f { separator = Letter_T; zone = Letter_Z })

marked_cmp : (f g : Fields) → slice_cmp nat_cmp (marked f) (marked g)
    ≡ then_cmp f.date.year g.date.year
    (then_cmp f.date.month g.date.month (then_cmp f.date.day g.date.day (then_cmp f.hour g.hour
    (then_cmp f.minute g.minute
    (then_cmp f.second g.second (slice_cmp nat_cmp (fraction_text f.fraction ++ codes "Z")
    (fraction_text g.fraction ++ codes "Z")))))))
marked_cmp f g = simp (four_digits_cmp, two_digits_cmp)

shown_marked : (t : ℤ) (k : ℕ) (text : List ℕ) (p : IsPrinted t k text) → text ≡ marked p.fields
shown_marked t k text p = p.weak.text
    ∙ (λ i. fields_text (record p.fields { separator = p.separator i; zone = p.zone i }))

pos_cmp : (m n : ℕ) → nat_cmp m n ≡ int_cmp (pos m) (pos n)
pos_cmp m n = grind (arith, nat_tests)

-- The numbers of the time of day, one after the other.
clock_cmp : (a h i s m b j k t n : ℕ) → h ≤ 23 → i ≤ 59 → s ≤ 59 → m < 1_000_000_000 → j ≤ 23
    → k ≤ 59 → t ≤ 59 → n < 1_000_000_000
    → then_cmp a b (then_cmp h j (then_cmp i k (then_cmp s t (nat_cmp m n))))
    ≡ nat_cmp ((a * 86_400 + h * 3_600 + i * 60 + min s 59) * 1_000_000_000 + m)
    ((b * 86_400 + j * 3_600 + k * 60 + min t 59) * 1_000_000_000 + n)
clock_cmp a h i s m b j k t n h23 i59 s59 m9 j23 k59 t59 n9 =
    rw (
      pair_cmp 1_000_000_000 s t m n m9 n9,
      pair_cmp 60_000_000_000 i k (s * 1_000_000_000 + m) (t * 1_000_000_000 + n) (omega arith) (omega arith),
      pair_cmp 3_600_000_000_000 h j (i * 60_000_000_000 + (s * 1_000_000_000 + m))
          (k * 60_000_000_000 + (t * 1_000_000_000 + n)) (omega arith) (omega arith),
      pair_cmp 86_400_000_000_000 a b
          (h * 3_600_000_000_000 + (i * 60_000_000_000 + (s * 1_000_000_000 + m)))
          (j * 3_600_000_000_000 + (k * 60_000_000_000 + (t * 1_000_000_000 + n)))
          (omega arith) (omega arith),
    ) (grind arith)

pub stamps_in_order : (a b : ℤ) → PrintInOrder a b
stamps_in_order a b k x y p q =
    let fraction =
    fraction_cmp k p.fields.fraction q.fields.fraction p.few p.places q.places
    (digits_from_test _ p.weak.fraction) (digits_from_test _ q.weak.fraction) in
    let clock = day_cmp p.fields.date q.fields.date _ p.weak.date q.weak.date ∙ clock_cmp _ _ _ _ _ _ _ _ _ _
    p.weak.hour p.weak.minute p.second (nanos_bound _ (digits_from_test _ p.weak.fraction))
    q.weak.hour q.weak.minute q.second (nanos_bound _ (digits_from_test _ q.weak.fraction)) in
    (λ i. slice_cmp nat_cmp (shown_marked a k x p i) (shown_marked b k y q i))
    ∙ marked_cmp p.fields q.fields ∙ rw fraction clock
    ∙ pos_cmp (moment_of p.fields) (moment_of q.fields) ∙ (λ i. int_cmp (p.moment i) (q.moment i))

-- Therefore a moment has only one printed text.
pub one_text : (t : ℤ) (k : ℕ) (x y : List ℕ) → IsPrinted t k x → IsPrinted t k y → x ≡ y
one_text t k x y p q = slice_cmp-IsAntisymmetric nat_cmp-IsAntisymmetric x y
    (stamps_in_order t t k x y p q ∙ grind (arith, ints))

-- ==== What the printer writes is the printed text of the moment, and the only one.

pub places_of_bound : (t : ℤ) → places_of t ≤ 9
places_of_bound t = grind arith

shown_moment : (t k time : ℕ) (date : Date) → k ≤ 9
    → day_of date * 86_400 + time ≡ t / 1_000_000_000 → time < 86_400
    → moment_of (printed_fields date time (t % 1_000_000_000) k) ≡ t - t % 10 ^ (9 - k)
shown_moment t k time date small e within = grind (arith, shown_nanos, cut_nanos, mod-le)

-- The fields that are printed represent the moment.
pub shown_printed : (t : ℤ) (k time : ℕ) (date : Date) → k ≤ 9 → IsDateAndSecondOf date time t
    → IsPrinted t k (fields_text (printed_fields date time (nano_of t) k))
shown_printed (negsuc t) k time date small is = absurd (let whole = is.sum in let no : ⊥ = cc in no)
shown_printed (pos t) k time date small is = record {
  few = small;
  fields = printed_fields date time (t % 1_000_000_000) k;
  weak = grind (arith, (last_are_digits k 9 (t % 1_000_000_000)), digits_from);
  separator = refl;
  zone = refl;
  second = omega arith;
  places = grind (arith, common_steps);
  moment = ap pos (shown_moment t k time date small (ap nat_abs is.sum) is.within_day)
      ∙ omega (arith, ints, mod-le t (10 ^ (9 - k)));
}

-- The printed text is ASCII.
ascii_from : (bs : List ℕ) → AllByRecursion (λ c. c < 128) bs → IsAscii bs
ascii_from bs h = grind (arith, common_steps)

pub printed_ascii : (t : ℤ) (k : ℕ) (text : List ℕ) → IsPrinted t k text → IsAscii text
printed_ascii t k text p =
    grind (arith, common_steps, (holds_before_zone (λ c. c < 128) (grind arith) text p.fields p.weak), ascii_from)

-- A moment of 1970 to 9999 has a printed text, which is the one that is computed.
pub printed_some : (t : ℤ) (k : ℕ) → k ≤ 9 → IsPrintable t
    → (text : List ℕ) × (moment_text t k ≡ Some text) × IsPrinted t k text
unfolding moment_text
printed_some (negsuc t) k small h = absurd (omega (arith, ints, h.0))
printed_some (pos t) k small h =
    let within : t < year_10000 = omega (arith, ints, h.1) in
    let date = date_of_is (t / 1_000_000_000 / 86_400) (omega arith) in
    let is : IsDateAndSecondOf _ _ (pos t) = record {
      date_exists = date.0;
      within_day = omega arith;
      sum = ap pos (omega (arith, date.1));
    } in
    (fields_text (fields_at t k), rw (lt-ltb t year_10000 within) refl, shown_printed (pos t) k _ _ small is)

-- The text that the contract of `Display` names is the printed one.
pub text_displayed : (t : ℤ) (k : ℕ) (text : List ℕ) → k ≤ 9 → (moment_text t k ≡ Some text)
    ↔ (IsPrintable t × IsPrinted t k text)
unfolding moment_text
text_displayed t k text small = (
  (λ h. let is : IsPrintable t = grind (arith, ints) in let some = printed_some t k small is in
      (is, rw (same_Some _ _ (sym h ∙ some.1)) some.2)),
  (λ p. let some = printed_some t k small p.0 in some.1 ∙ ap Some (one_text t k some.0 text some.2 p.1)),
)

-- The result of printing is the text that is computed, if any.
pub text_answered : (x : MomentToPrint) (text : Option (List ℕ))
    → (IsSome text ↔ IsPrintable x.moment) → IfSome text (IsPrinted x.moment x.places)
    → text ≡ printed_text x
unfolding moment_text
text_answered x (Some text) within is =
    sym ((text_displayed x.moment x.places text x.few).1 (within.0 refl, is))
text_answered x None within is = grind (arith, ints, within)

-- A printed text parses to the moment, rounded down.
pub printed_reads : (t : ℤ) (k : ℕ) (text : List ℕ) → IsPrinted t k text → ReadsAs text (cut t k)
printed_reads t k text p = grind arith
