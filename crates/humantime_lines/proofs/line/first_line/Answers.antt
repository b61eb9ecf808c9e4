use Rattle.std.proofs.Common.{arith}
use Rattle.std.proofs.lemmas.Iterator.Splits.{YieldsList-from_lines}
use Rattle.humantime_lines.proofs.Lines.{first_yielded}
use Rattle.humantime_lines.proofs.line.first_line.Goals as goal

pub returns : goal.returns
returns c =
    let all = YieldsList-from_lines c.args.text.now c.lines.ensures.rest in
    let first = first_yielded _ _ all c.next.ensures.steps in
    grind (arith, first)
