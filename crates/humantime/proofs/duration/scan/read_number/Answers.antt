use Rattle.std.proofs.Common.{◌≡◌, chars, drop, false, arith, rules}
use Rattle.std.proofs.lemmas.Bool.Decides.{nat_tests}
use Rattle.std.proofs.lemmas.Grind.{common_steps}
use Rattle.humantime.specs.Characters.{begins, in_number}
use Rattle.humantime.proofs.SpanParts.{first_digit, first_passed, stops_here}
use Rattle.humantime.proofs.Offsets.{front_is, no_chars_at}
use Rattle.humantime.proofs.duration.scan.read_number.Goals as goal

pub loop-at-init : goal.loop-at-init
loop-at-init c =
    grind (arith, first_digit, (first_passed c.args.text.now c.utf8.text c.requires))

pub returns-clause-read : goal.returns-clause-read
returns-clause-read c =
    let ended : begins in_number (chars (drop c.loop-at.at c.args.text.now)) ≡ false =
    search (rules, no_chars_at, stops_here) in
    let front =
    front_is in_number c.args.text.now c.loop-at.at c.utf8.text c.loop-at.invariant.place in
    grind (arith, common_steps, nat_tests, ended, front, c.loop-at.invariant)
