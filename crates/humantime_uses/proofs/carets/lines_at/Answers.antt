use Rattle.std.proofs.Common.{arith}
use Rattle.humantime_uses.proofs.ShownLines.{shows_range}
use Rattle.humantime_uses.proofs.carets.lines_at.Goals as goal

pub returns : goal.returns
returns g c = grind (arith, shows_range)
