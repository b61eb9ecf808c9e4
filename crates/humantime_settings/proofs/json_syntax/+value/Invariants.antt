use Rattle.std.proofs.Common.{◌+◌, ◌*◌}
use denote.Text.{Utf8}
use denote.Shadow.{shadow}
use Rattle.humantime_settings.proofs.json_syntax.+value.Given as goal

abbrev pub decreases-after_value : goal.decreases-after_value
decreases-after_value l = 2 * l.depth

abbrev pub decreases-after_entries : goal.decreases-after_entries
decreases-after_entries l = 2 * l.depth + 1

-- What is left of the document is text.
abbrev pub invariant-after_entries-loop : goal.invariant-after_entries-loop
invariant-after_entries-loop l = shadow (Utf8 l.rest)
