use denote.Shadow.{shadow}
use denote.Text.{Utf8}
use Rattle.std.proofs.Common.{length}
use Rattle.humantime_lines.proofs.Windows.{Ended}
use Rattle.humantime_lines.proofs.window.end_within.Given as goal

abbrev pub invariant-chars : goal.invariant-chars
invariant-chars l = record {
  utf8 : shadow (Utf8 l.rest);
  ended : Ended l.text l.rest l.columns l.left;
}

abbrev pub decreases-chars : goal.decreases-chars
decreases-chars l = length l.rest
