use Rattle.std.proofs.Common.{arith}
use Rattle.std.proofs.lemmas.Grind.{common_steps}
use Rattle.humantime_std.proofs.NextRuns.{due_in_range}
use Rattle.humantime_uses.proofs.std_limits.wait_for_month.Goals as goal

pub returns-in_err-next_monthly_run-clause-none : goal.returns-in_err-next_monthly_run-clause-none
returns-in_err-next_monthly_run-clause-none c = λ none from t due.
    grind (arith, common_steps, (due_in_range c.args.last c.args.now t due))
