use Rattle.std.proofs.Common.{arith}
use Rattle.std.proofs.lemmas.Grind.{common_steps}
use Rattle.std.proofs.lemmas.Int.{ints}
use Rattle.humantime_std.proofs.NextRuns.{next_from_gap}
use Rattle.humantime_std.proofs.times.next_run.Goals as goal

pub returns : goal.returns
returns c =
    let found = c.run_after.ensures in
    let answer =
    next_from_gap c.args.last c.args.now _ c.args.every _ found.first found.never found.later
    (grind (arith, ints, common_steps)) (grind (arith, ints, common_steps)) in
    record { next = answer.0; none = answer.1 }
