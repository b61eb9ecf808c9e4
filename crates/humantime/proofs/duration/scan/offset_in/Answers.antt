use Rattle.std.proofs.Common.{arith}
use Rattle.humantime.proofs.Offsets.{tail_boundary}
use Rattle.humantime.proofs.duration.scan.offset_in.Goals as goal

pub returns-clause-place : goal.returns-clause-place
returns-clause-place c =
    grind (arith, (tail_boundary c.args.text.now c.args.rest.now c.requires))
