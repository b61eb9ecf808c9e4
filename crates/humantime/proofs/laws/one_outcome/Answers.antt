use Rattle.humantime.proofs.Theorems.{one_outcome}
use Rattle.humantime.proofs.laws.one_outcome.Goals as goal

pub returns : goal.returns
returns c = one_outcome _
