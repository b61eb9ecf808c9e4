-- The unit of a word by its bytes.
use Rattle.humantime.specs.Characters.{micro_sign, greek_mu}
use Rattle.humantime.specs.Durations.{Scale, words, scale_of_word}
use Rattle.humantime.specs.PrivateFunctions.{words_below, words_from, scale_from}
use Rattle.humantime.specs.Values.{seconds_per_day}
use Rattle.std.proofs.Common.{ltb, ◌+◌, ◌≡◌, ◌≤◌, ◌∙◌, ap, refl, ℕ, suc, Bool, true, ◌&&◌, List, [], ◌∷◌, ◌++◌, length, get_or, Option, Some, None, chars, arith, ◌==◌, bytes_eq, if◌then◌else◌, IsUtf8}
use Rattle.std.proofs.lemmas.Bool.{and_parts}
use Rattle.std.proofs.lemmas.Bool.Decides.{nat_tests}
use Rattle.std.proofs.lemmas.Slice.Eq.{HasBytesAt, bytes_eq-Decides, text_from_reads}
use Rattle.std.proofs.lemmas.Str.{chars-encodes, encodes-chars}
use Rattle.std.specs.List.{list_all}
use Rattle.std.specs.Map.{lookup}
use Rattle.std.specs.Prelude.{⊤}
use Rattle.std.proofs.Math.Utf8.{encode, encodes, scalars}

-- The UTF-8 bytes of a word of ASCII letters, micro signs and Greek mus.
abbrev pub bytes_of : List ℕ → List ℕ
bytes_of [] = []
bytes_of (c ∷ cs) =
    if c == micro_sign then 0xc2 ∷ 0xb5 ∷ bytes_of cs
    else if c == greek_mu then 0xce ∷ 0xbc ∷ bytes_of cs
    else c ∷ bytes_of cs

abbrev is_spelled : List ℕ → Bool
is_spelled w = scalars w && bytes_eq (encodes w) (bytes_of w)

abbrev are_spelled : List (List ℕ × Scale) → Bool
are_spelled ws = list_all (λ w. is_spelled w.0) ws

word_told : (bs w : List ℕ) → IsUtf8 bs → is_spelled w ≡ true
    → bytes_eq (chars bs) w ≡ bytes_eq bs (bytes_of w)
word_told bs w text spelled =
    grind (
      arith,
      (bytes_eq-Decides (encodes w) (bytes_of w)),
      (bytes_eq-Decides bs (bytes_of w)),
      (bytes_eq-Decides (chars bs) w),
      (encodes-chars bs text),
      (chars-encodes w),
    )

-- ---- a word: the tests of its bytes hold

-- If the bytes from this place on are these, and no others follow, then this holds.
abbrev pub OnBytes : List ℕ → ℕ → List ℕ → Type 0 → Type 0
OnBytes bs k [] P = length bs ≡ k → P
OnBytes bs k (c ∷ cs) P = get_or bs k 0 ≡ c → OnBytes bs (suc k) cs P

on_bytes : (bs : List ℕ) (k : ℕ) (w : List ℕ) (P : Type 0)
    → (length bs ≡ k + length w → HasBytesAt bs k w → P) → OnBytes bs k w P
on_bytes bs k [] P holds = λ n. holds (omega arith) tt
on_bytes bs k (c ∷ cs) P holds = λ e. on_bytes bs (suc k) cs P (λ n at. holds (omega arith) (e, at))

-- If the bytes are those of one of these words, the result is that of a look-up of this word.
abbrev pub HasEach : List ℕ → Option Scale → List (List ℕ × Scale) → List (List ℕ × Scale) → Type 0
HasEach bs found table [] = ⊤
HasEach bs found table (w ∷ ws) =
    OnBytes bs 0 (bytes_of w.0) (found ≡ lookup (bytes_eq w.0) table) × HasEach bs found table ws

has_each : (bs : List ℕ) → IsUtf8 bs → (table ws : List (List ℕ × Scale)) → are_spelled ws ≡ true
    → HasEach bs (lookup (bytes_eq (chars bs)) table) table ws
has_each bs text table [] t = tt
has_each bs text table (w ∷ ws) t =
    let spelled = and_parts (is_spelled w.0) (are_spelled ws) t in
    let word =
    λ (same : bs ≡ bytes_of w.0). (bytes_eq-Decides (chars bs) w.0).0
    (word_told bs w.0 text spelled.0 ∙ (bytes_eq-Decides bs (bytes_of w.0)).1 same) in (
      on_bytes bs 0 (bytes_of w.0) (lookup (bytes_eq (chars bs)) table ≡ lookup (bytes_eq w.0) table)
          (λ n at. ap (λ cs. lookup (bytes_eq cs) table) (word (text_from_reads bs (bytes_of w.0) (omega arith) at))),
      has_each bs text table ws spelled.1,
    )

pub each_word : (bs : List ℕ) → IsUtf8 bs
    → (scale_of_word (chars bs) ≡ scale_of_word (chars bs))
    × HasEach bs (scale_of_word (chars bs)) words words
unfolding scale_of_word encode
each_word bs text = (refl, has_each bs text words words refl)

pub each_from_second : (bs : List ℕ) → IsUtf8 bs
    → (scale_from 1 (chars bs) ≡ scale_from 1 (chars bs))
    × HasEach bs (scale_from 1 (chars bs)) (words_from 1) (words_from 1)
unfolding scale_from encode
each_from_second bs text = (refl, has_each bs text (words_from 1) (words_from 1) refl)

pub each_from_day : (bs : List ℕ) → IsUtf8 bs
    → (scale_from seconds_per_day (chars bs) ≡ scale_from seconds_per_day (chars bs)) × HasEach bs
    (scale_from seconds_per_day (chars bs)) (words_from seconds_per_day)
    (words_from seconds_per_day)
unfolding scale_from encode
each_from_day bs text =
    (refl, has_each bs text (words_from seconds_per_day) (words_from seconds_per_day) refl)

-- What an arm of the look-up needs, but for the last one.
pub ruleset words_of_units = (each_word, each_from_second, each_from_day)

-- ---- no word: a test of the bytes of each fails

-- The bytes from this place on are these.
abbrev pub has_from : List ℕ → ℕ → List ℕ → Bool
has_from bs k [] = true
has_from bs k (c ∷ cs) = (get_or bs k 0 == c) && has_from bs (suc k) cs

has_later : (b : ℕ) (bs : List ℕ) (k : ℕ) (w : List ℕ)
    → has_from (b ∷ bs) (suc k) w ≡ has_from bs k w
has_later b bs k [] = refl
has_later b bs k (c ∷ cs) = ap (λ x. (get_or bs k 0 == c) && x) (has_later b bs (suc k) cs)

same_bytes : (bs w : List ℕ) → bytes_eq bs w ≡ ((length bs == length w) && has_from bs 0 w)
same_bytes [] w = grind (arith, nat_tests)
same_bytes (b ∷ bs) [] = grind (arith, nat_tests)
same_bytes (b ∷ bs) (c ∷ cs) = grind (arith, nat_tests, (same_bytes bs cs), (has_later b bs 0 cs))

-- Looks up the bytes among the words of this length, and returns the other result if they are none
-- of these.
abbrev pub scale_among : List ℕ → ℕ → List (List ℕ × Scale) → Option Scale → Option Scale
scale_among bs n [] later = later
scale_among bs n (w ∷ ws) later =
    if n == length (bytes_of w.0)
    then (if has_from bs 0 (bytes_of w.0) then Some w.1 else scale_among bs n ws later)
    else scale_among bs n ws later

among_bytes : (bs : List ℕ) → IsUtf8 bs → (ws later : List (List ℕ × Scale)) → are_spelled ws ≡ true
    → lookup (bytes_eq (chars bs)) (ws ++ later) ≡ scale_among bs (length bs) ws (lookup (bytes_eq (chars bs)) later)
among_bytes bs text [] later t = refl
among_bytes bs text (w ∷ ws) later t =
    grind (
      arith,
      nat_tests,
      (and_parts (is_spelled w.0) (are_spelled ws) t),
      (word_told bs w.0 text),
      (same_bytes bs (bytes_of w.0)),
      (among_bytes bs text ws later),
    )

pub below_second : (bs : List ℕ) → IsUtf8 bs → scale_of_word (chars bs)
    ≡ scale_among bs (length bs) (words_below 1 words) (scale_from 1 (chars bs))
unfolding scale_of_word scale_from encode
below_second bs text = among_bytes bs text (words_below 1 words) (words_from 1) refl

pub from_second : (bs : List ℕ) → IsUtf8 bs
    → scale_from 1 (chars bs) ≡ scale_among bs (length bs)
    (words_below seconds_per_day (words_from 1)) (scale_from seconds_per_day (chars bs))
unfolding scale_from encode
from_second bs text = among_bytes bs text (words_below seconds_per_day (words_from 1))
    (words_from seconds_per_day) refl

pub from_day : (bs : List ℕ) → IsUtf8 bs → scale_from seconds_per_day (chars bs)
    ≡ scale_among bs (length bs) (words_from seconds_per_day) None
unfolding scale_from encode
from_day bs text = among_bytes bs text (words_from seconds_per_day) [] refl

-- The words of this length or more.
abbrev pub long_words : ℕ → List (List ℕ × Scale) → List (List ℕ × Scale)
long_words n [] = []
long_words n (w ∷ ws) =
    if ltb (length (bytes_of w.0)) n then long_words n ws else w ∷ long_words n ws

among_long : (bs : List ℕ) (m n : ℕ) → m ≤ n → (ws : List (List ℕ × Scale)) (later : Option Scale)
    → scale_among bs n ws later ≡ scale_among bs n (long_words m ws) later
among_long bs m n more [] later = refl
among_long bs m n more (w ∷ ws) later = grind (arith, nat_tests, (among_long bs m n more ws later))

pub at_each_length : (bs : List ℕ) (found : Option Scale) (ws : List (List ℕ × Scale)) (later : Option Scale) (n : ℕ)
    → (n ≡ 0 → found ≡ scale_among bs 0 ws later) → (n ≡ 1 → found ≡ scale_among bs 1 ws later)
    → (n ≡ 2 → found ≡ scale_among bs 2 ws later)
    → (n ≡ 3 → found ≡ scale_among bs 3 ws later) → (n ≡ 4 → found ≡ scale_among bs 4 ws later)
    → (n ≡ 5 → found ≡ scale_among bs 5 ws later)
    → (n ≡ 6 → found ≡ scale_among bs 6 ws later) → (n ≡ 7 → found ≡ scale_among bs 7 ws later)
    → (n ≡ 8 → found ≡ scale_among bs 8 ws later)
    → (n ≡ 9 → found ≡ scale_among bs 9 ws later) → (n ≡ 10 → found ≡ scale_among bs 10 ws later)
    → (11 ≤ n → found ≡ scale_among bs n (long_words 11 ws) later)
    → found ≡ scale_among bs n ws later
at_each_length bs found ws later n none one two three four five six seven eight nine ten more =
    grind (
      arith,
      nat_tests,
      none,
      one,
      two,
      three,
      four,
      five,
      six,
      seven,
      eight,
      nine,
      ten,
      more,
      (among_long bs 11 n),
    )
