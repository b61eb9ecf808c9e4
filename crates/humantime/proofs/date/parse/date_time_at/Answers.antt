use Rattle.humantime.proofs.Checks.{date_time_summed}
use Rattle.humantime.proofs.date.parse.date_time_at.Goals as goal

pub returns : goal.returns
returns c = date_time_summed c.args.bytes.now c.requires.layout
