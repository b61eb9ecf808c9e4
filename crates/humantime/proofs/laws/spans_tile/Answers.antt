use Rattle.humantime.proofs.Theorems.{spans_tile}
use Rattle.humantime.proofs.laws.spans_tile.Goals as goal

pub returns : goal.returns
returns c = spans_tile _
