use Rattle.std.proofs.Common.{◌≡◌, ◌≤◌, ◌-◌, IsCharBoundary, chars, drop, take, length}
use Rattle.humantime.specs.Characters.{digits}
use Rattle.humantime.specs.DurationErrors.{after_number}
use Rattle.humantime.specs.PrivateTypes.{HasDigits}
use Rattle.humantime.proofs.duration.scan.read_fraction.Given as goal

abbrev pub invariant-loop-at : goal.invariant-loop-at
invariant-loop-at l = record {
  place : IsCharBoundary l.text l.at;
  after : after_number (chars (drop l.at l.text)) ≡ after_number (chars l.text);
  digits : HasDigits l.fraction (digits (chars (take l.at l.text)));
  few : l.fraction.len ≤ l.at;
}

abbrev pub decreases-loop-at : goal.decreases-loop-at
decreases-loop-at l = length l.text - l.at
