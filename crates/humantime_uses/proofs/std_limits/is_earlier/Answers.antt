use Rattle.std.proofs.Common.{arith}
use Rattle.std.proofs.lemmas.Int.{ints}
use Rattle.humantime_uses.proofs.std_limits.is_earlier.Goals as goal

pub returns-in-Some : goal.returns-in-Some
returns-in-Some c = grind (arith, ints)

pub returns-in-None : goal.returns-in-None
returns-in-None c = grind (arith, ints)
