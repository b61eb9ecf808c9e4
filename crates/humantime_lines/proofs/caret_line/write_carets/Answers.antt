use Rattle.std.proofs.Common.{arith, rules}
use Rattle.humantime_lines.proofs.Carets.{carets_written}
use Rattle.humantime_lines.proofs.caret_line.write_carets.Goals as goal

pub returns : goal.returns
returns g c = λ flush ok.
    let blanks = c.in_ok-write_blanks.ensures flush (search rules) in
    let carets = c.write_repeated.ensures.styled blanks.flush ok in
    carets_written c.args.before.now c.args.part.now blanks carets (omega arith)
