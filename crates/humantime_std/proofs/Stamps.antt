-- The timestamp at the front of a line of a log.
use Rattle.std.proofs.Common.{◌≡◌, ℕ, ◌+◌, ◌<◌, List, [], Some, None, IsCharBoundary, IsUtf8, true, sym, length, take, drop, slice_index, arith, length-drop, drop-drop, get_or-drop}
use Rattle.std.proofs.lemmas.Bool.Decides.{nat_tests}
use Rattle.std.proofs.lemmas.Grind.{common_steps}
use Rattle.std.proofs.Math.Seq.{take-add}
use Rattle.std.proofs.lemmas.List.Sums.{passes_at_first, prefix_len-le-length}
use Rattle.std.proofs.lemmas.Str.{IsCharBoundary-before_ascii, IsCharBoundary-after_ascii}
use Rattle.std.specs.Char.{is_ascii_whitespace}
use Rattle.std.specs.List.{position, position_or_len}
use Rattle.humantime_std.specs.Logs.{leading_stamp, after_stamp}

white_is_ascii : (b : ℕ) → is_ascii_whitespace b ≡ true → b < 128
white_is_ascii b white = grind (arith, nat_tests)

-- The first whitespace of some bytes.
record IsWhiteAt (bytes : List ℕ) (at : ℕ) : Type 0 where
  within : at < length bytes
  first : position_or_len is_ascii_whitespace bytes ≡ at
  ascii : slice_index bytes at < 128

white_at : (bytes : List ℕ) (at : ℕ) → position is_ascii_whitespace bytes ≡ Some at
    → IsWhiteAt bytes at
white_at bytes at found =
    let first = passes_at_first is_ascii_whitespace bytes 0 in
    record {
      within = grind (arith, nat_tests);
      first = grind (arith, nat_tests);
      ascii = grind (arith, nat_tests, first, white_is_ascii);
    }

-- The whitespace that is found `len` bytes after a date ends the timestamp.
pub split_at_space : (line : List ℕ) (len : ℕ) → IsUtf8 line
    → position is_ascii_whitespace (drop 11 line) ≡ Some len
    → IsCharBoundary line (11 + len) × IsCharBoundary line (11 + len + 1)
    × (take (11 + len) line ≡ leading_stamp line) × (drop (11 + len + 1) line ≡ after_stamp line)
split_at_space line len utf8 found =
    let white = white_at (drop 11 line) len found in
    let inside : 11 + len < length line = omega (arith, white, length-drop 11 line) in
    let ascii : slice_index line (11 + len) < 128 = omega (arith, white, get_or-drop 11 line len 0) in
    let same : 11 + len + 1 ≡ 11 + (len + 1) = omega arith in (
      IsCharBoundary-before_ascii line (11 + len) inside ascii,
      IsCharBoundary-after_ascii line (11 + len) utf8 inside ascii,
      rw white.first (take-add 11 len line),
      rw (white.first, same) (sym (drop-drop (len + 1) 11 line)),
    )

-- Without whitespace after a date, the whole line is the timestamp.
pub no_space : (line : List ℕ) → position is_ascii_whitespace (drop 11 line) ≡ None
    → (line ≡ leading_stamp line) × (after_stamp line ≡ [])
no_space line missing = grind (arith, common_steps, nat_tests, (prefix_len-le-length {X = ℕ}))
