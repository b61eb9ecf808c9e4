use Rattle.std.proofs.Common.{◌≡◌, ◌-◌, chars, drop, length, IsCharBoundary}
use Rattle.humantime.specs.Characters.{drop_while, is_whitespace}
use Rattle.humantime.proofs.duration.scan.skip_whitespace.Given as goal

abbrev pub invariant-loop-at : goal.invariant-loop-at
invariant-loop-at l = record {
  place : IsCharBoundary l.text l.at;
  same : drop_while is_whitespace (chars (drop l.at l.text)) ≡ drop_while is_whitespace (chars l.text);
}

abbrev pub decreases-loop-at : goal.decreases-loop-at
decreases-loop-at l = length l.text - l.at
