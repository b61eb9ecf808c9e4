use Rattle.std.proofs.Common.{arith}
use Rattle.humantime_std.proofs.Inside.{fit_inside}
use Rattle.humantime_std.proofs.located.locate.Goals as goal

pub returns-then-eq-clause-error : goal.returns-then-eq-clause-error
returns-then-eq-clause-error c = grind (arith, fit_inside)

pub returns-else-eq-clause-error : goal.returns-else-eq-clause-error
returns-else-eq-clause-error c = grind (arith, fit_inside)
