use denote.Shadow.{shadow}
use denote.Text.{Utf8}
use Rattle.std.proofs.Common.{◌≡◌, ◌+◌, ◌≤◌, chars, length, min}
use Rattle.humantime_lines.specs.MarkedLines.{line_room}
use Rattle.humantime_lines.proofs.window.line_room.Given as goal

abbrev pub invariant-chars : goal.invariant-chars
invariant-chars l = record {
  utf8 : shadow (Utf8 l.rest);
  within : l.columns ≤ l.most;
  same : min (l.columns + line_room (chars l.rest)) l.most ≡ min (line_room (chars l.text)) l.most;
}

abbrev pub decreases-chars : goal.decreases-chars
decreases-chars l = length l.rest
