use Rattle.std.proofs.Common.{rules, arith}
use Rattle.humantime_lines.proofs.Carets.{last_piece, next_piece}
use Rattle.humantime_lines.proofs.caret_line.write_blanks.Goals as goal

pub pieces-preserved : goal.pieces-preserved
pieces-preserved g c = record {
  utf8 = search rules;
  under = λ flush.
      let now = c.pieces.invariant.under flush in
      let filled = c.in_ok-write_repeated.ensures.styled now.wrote.flush (search rules) in
      let tab = c.in_ok-write_str.ensures.styled filled.flush (search rules) in
      next_piece c.in-Some.piece.now now filled tab (omega arith) (search rules);
}

pub returns : goal.returns
returns g c = λ flush ok.
    let now = c.pieces.invariant.under flush in
    let filled = c.write_repeated-2.ensures.styled now.wrote.flush ok in
    last_piece now filled (omega arith) (search rules)
