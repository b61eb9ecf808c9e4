use Rattle.humantime.specs.PrivateFunctions.{words_below, words_from, scale_from}
use Rattle.humantime.specs.Values.{seconds_per_day}
use Rattle.std.proofs.Common.{chars, arith, length}
use Rattle.std.proofs.lemmas.Bool.Decides.{nat_tests}
use Rattle.humantime.proofs.UnitWords.{at_each_length, from_second}
use Rattle.humantime.proofs.unit.scale_from_second.Goals as goal

pub returns-in_default : goal.returns-in_default
returns-in_default c =
    rw (from_second c.args.word.now c.utf8.word)
    (at_each_length c.args.word.now _ (words_below seconds_per_day (words_from 1))
    (scale_from seconds_per_day (chars c.args.word.now)) (length c.args.word.now)
    (λ n. grind (arith, nat_tests)) (λ n. grind (arith, nat_tests)) (λ n. grind (arith, nat_tests))
    (λ n. grind (arith, nat_tests))
    (λ n. grind (arith, nat_tests)) (λ n. grind (arith, nat_tests)) (λ n. grind (arith, nat_tests))
    (λ n. grind (arith, nat_tests))
    (λ n. grind (arith, nat_tests)) (λ n. grind (arith, nat_tests)) (λ n. grind (arith, nat_tests))
    (λ n. grind (arith, nat_tests)))
