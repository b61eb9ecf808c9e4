use Rattle.humantime_cli.proofs.RunFacts.{strict_printed}
use Rattle.humantime_cli.proofs.command.callers.print_strict.Goals as goal

pub returns : goal.returns
returns c = strict_printed _ _ _ _ _ c.run.ensures.one c.run.ensures.ends
