use Rattle.std.proofs.Common.{rules}
use Rattle.humantime_clap.proofs.Leaves.{built_later}
use Rattle.humantime_clap.proofs.value_of.Goals as goal

pub returns-in_err-error-clause-command : goal.returns-in_err-error-clause-command
returns-in_err-error-clause-command g c =
    (search rules, built_later _ _ _ (search rules) c.error.ensures.after)

pub returns-clause-command : goal.returns-clause-command
returns-clause-command g c = (tt, built_later _ _ _ (search rules) c.error.ensures.after)
