use Rattle.std.proofs.Common.{◌≡◌, ◌-◌, length, drop, IsCharBoundary, chars}
use Rattle.humantime.specs.Characters.{drop_while, is_letter}
use Rattle.humantime.proofs.duration.scan.read_word.Given as goal

abbrev pub invariant-loop-at : goal.invariant-loop-at
invariant-loop-at l = record {
  place : IsCharBoundary l.text l.at;
  same : drop_while is_letter (chars (drop l.at l.text)) ≡ drop_while is_letter (chars l.text);
}

abbrev pub decreases-loop-at : goal.decreases-loop-at
decreases-loop-at l = length l.text - l.at
