use Rattle.std.proofs.Common.{◌≡◌, chars, drop, false, arith, rules}
use Rattle.humantime.specs.Characters.{begins, is_whitespace}
use Rattle.humantime.proofs.Offsets.{whitespace_over, no_whitespace, no_chars_at}
use Rattle.humantime.proofs.duration.scan.skip_whitespace.Goals as goal

pub loop-at-preserved : goal.loop-at-preserved
loop-at-preserved c =
    grind (arith, (whitespace_over c.args.text.now c.loop-at.at c.utf8.text))

pub returns-clause-read : goal.returns-clause-read
returns-clause-read c =
    let ended : begins is_whitespace (chars (drop c.loop-at.at c.args.text.now)) ≡ false =
    search (rules, no_chars_at, no_whitespace) in
    grind (arith, ended)
