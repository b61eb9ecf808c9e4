use Rattle.humantime_cli.proofs.RunFacts.{fault_printed, fault_cut}
use Rattle.humantime_cli.proofs.command.callers.explain_fault.Goals as goal

pub returns-clause-whole : goal.returns-clause-whole
returns-clause-whole c = fault_printed _ _ _ _ _ c.run.ensures.one c.run.ensures.ends

pub returns-clause-cut : goal.returns-clause-cut
returns-clause-cut c = fault_cut _ _ _ _ _ c.run.ensures.one c.run.ensures.ends
