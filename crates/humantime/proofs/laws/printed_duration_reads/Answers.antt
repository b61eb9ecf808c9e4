use Rattle.std.proofs.Common.{arith}
use Rattle.humantime.proofs.Theorems.{printed_duration_reads}
use Rattle.humantime.proofs.laws.printed_duration_reads.Goals as goal

pub returns : goal.returns
returns c = printed_duration_reads c.args.d (omega arith)
