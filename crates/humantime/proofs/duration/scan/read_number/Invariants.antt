use Rattle.std.proofs.Common.{◌≡◌, ◌≤◌, ◌-◌, IsCharBoundary, chars, drop, take, length}
use Rattle.humantime.specs.Characters.{decimal_value, digits, u64_max}
use Rattle.humantime.specs.DurationErrors.{after_number}
use Rattle.humantime.proofs.duration.scan.read_number.Given as goal

abbrev pub invariant-loop-at : goal.invariant-loop-at
invariant-loop-at l = record {
  place : IsCharBoundary l.text l.at;
  after : after_number (chars (drop l.at l.text)) ≡ after_number (chars l.text);
  value : l.value ≡ decimal_value (digits (chars (take l.at l.text)));
  fits : l.value ≤ u64_max;
}

abbrev pub decreases-loop-at : goal.decreases-loop-at
decreases-loop-at l = length l.text - l.at
