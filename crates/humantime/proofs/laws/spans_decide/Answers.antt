use Rattle.humantime.proofs.Theorems.{spans_decide}
use Rattle.humantime.proofs.laws.spans_decide.Goals as goal

pub returns : goal.returns
returns c = spans_decide _
