use denote.Shadow.{shadow}
use denote.Text.{Utf8}
use Rattle.std.proofs.Common.{length}
use Rattle.humantime_lines.proofs.Windows.{Started}
use Rattle.humantime_lines.proofs.window.start_within.Given as goal

abbrev pub invariant-chars : goal.invariant-chars
invariant-chars l = record {
  utf8 : shadow (Utf8 l.rest);
  started : Started l.text l.rest l.columns l.left;
}

abbrev pub decreases-chars : goal.decreases-chars
decreases-chars l = length l.rest
