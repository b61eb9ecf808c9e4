use Rattle.humantime.proofs.Theorems.{printed_moment_reads}
use Rattle.humantime.proofs.laws.printed_moment_reads.Goals as goal

pub returns : goal.returns
returns c = printed_moment_reads c.args.x.now.moment c.args.x.now.places c.args.x.now.few
