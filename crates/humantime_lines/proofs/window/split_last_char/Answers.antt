use Rattle.std.proofs.Common.{rules}
use Rattle.humantime_lines.proofs.Windows.{chars_before}
use Rattle.humantime_lines.proofs.window.split_last_char.Goals as goal

pub returns-clause-chars : goal.returns-clause-chars
returns-clause-chars c = search (rules, chars_before)
