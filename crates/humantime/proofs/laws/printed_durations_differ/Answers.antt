use Rattle.std.proofs.Common.{arith}
use Rattle.humantime.proofs.Theorems.{printed_durations_differ}
use Rattle.humantime.proofs.laws.printed_durations_differ.Goals as goal

pub returns : goal.returns
returns c = printed_durations_differ c.args.a c.args.b (omega arith) (omega arith)
