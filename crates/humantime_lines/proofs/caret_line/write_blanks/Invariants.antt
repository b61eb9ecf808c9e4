use denote.Shadow.{shadow}
use denote.Text.{Utf8}
use Rattle.std.proofs.Common.{length}
use Rattle.std.specs.Fmt.{IsFlush}
use Rattle.humantime_lines.proofs.Carets.{Under}
use Rattle.humantime_lines.proofs.caret_line.write_blanks.Given as goal

abbrev pub invariant-pieces : goal.invariant-pieces
invariant-pieces g l = record {
  utf8 : shadow (Utf8 l.rest);
  under : IsFlush l.fn.f → Under g.W.Write.write_str_gives l.fn.f l.rest l.fn.before l.f;
}

abbrev pub decreases-pieces : goal.decreases-pieces
decreases-pieces g l = length l.rest
