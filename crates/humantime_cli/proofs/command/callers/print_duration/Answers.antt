use Rattle.humantime_cli.proofs.RunFacts.{printed_whole, printed_cut}
use Rattle.humantime_cli.proofs.command.callers.print_duration.Goals as goal

pub returns-clause-whole : goal.returns-clause-whole
returns-clause-whole c = printed_whole _ _ _ _ _ c.run.ensures.one c.run.ensures.ends

pub returns-clause-cut : goal.returns-clause-cut
returns-clause-cut c = printed_cut _ _ _ _ _ c.run.ensures.one c.run.ensures.ends
