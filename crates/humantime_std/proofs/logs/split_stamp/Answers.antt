use Rattle.std.proofs.Common.{arith, sym}
use Rattle.humantime_std.proofs.Stamps.{no_space, split_at_space}
use Rattle.humantime_std.proofs.logs.split_stamp.Goals as goal

pub range-requires-clause-end_boundary : goal.range-requires-clause-end_boundary
range-requires-clause-end_boundary c =
    (split_at_space c.args.line.now _ c.utf8.line (sym c.in-Some.ensures)).0

pub range_from-requires : goal.range_from-requires
range_from-requires c = λ _. (split_at_space c.args.line.now _ c.utf8.line (sym c.in-Some.ensures)).1

pub returns-in-Some : goal.returns-in-Some
returns-in-Some c =
    grind (arith, split_at_space c.args.line.now _ c.utf8.line (sym c.in-Some.ensures))

pub returns-in-None : goal.returns-in-None
returns-in-None c = grind (arith, no_space c.args.line.now (sym c.in-None.ensures))
