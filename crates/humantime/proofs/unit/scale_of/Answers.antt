use Rattle.humantime.specs.Durations.{words}
use Rattle.humantime.specs.PrivateFunctions.{words_below, scale_from}
use Rattle.std.proofs.Common.{chars, arith, length}
use Rattle.std.proofs.lemmas.Bool.Decides.{nat_tests}
use Rattle.humantime.proofs.UnitWords.{at_each_length, below_second}
use Rattle.humantime.proofs.unit.scale_of.Goals as goal

pub returns-in_default : goal.returns-in_default
returns-in_default c =
    rw (below_second c.args.word.now c.utf8.word)
    (at_each_length c.args.word.now _ (words_below 1 words) (scale_from 1 (chars c.args.word.now))
    (length c.args.word.now)
    (λ n. grind (arith, nat_tests)) (λ n. grind (arith, nat_tests)) (λ n. grind (arith, nat_tests))
    (λ n. grind (arith, nat_tests))
    (λ n. grind (arith, nat_tests)) (λ n. grind (arith, nat_tests)) (λ n. grind (arith, nat_tests))
    (λ n. grind (arith, nat_tests))
    (λ n. grind (arith, nat_tests)) (λ n. grind (arith, nat_tests)) (λ n. grind (arith, nat_tests))
    (λ n. grind (arith, nat_tests)))
