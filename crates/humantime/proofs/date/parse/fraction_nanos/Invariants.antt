use Rattle.std.proofs.Common.{◌≡◌, ◌+◌, ◌*◌, ◌/◌, ◌^◌, ◌<◌, ◌≤◌, length, drop}
use Rattle.std.specs.Str.{all_ascii_digits}
use Rattle.humantime.proofs.TimestampParts.{add_digits}
use Rattle.humantime.proofs.date.parse.fraction_nanos.Given as goal

abbrev pub invariant-loop-place : goal.invariant-loop-place
invariant-loop-place l = record {
  unit : l.place_value ≡ 100_000_000 / 10 ^ l.place;
  added : add_digits l.nanos l.place_value (drop l.place l.digits) ≡ add_digits 0 100_000_000 l.digits;
  digits : all_ascii_digits (drop l.place l.digits) ≡ all_ascii_digits l.digits;
  within : l.place ≤ length l.digits;
  low : l.nanos < 1_000_000_000;
  room : l.nanos + 10 * l.place_value ≤ 1_000_000_000;
}
