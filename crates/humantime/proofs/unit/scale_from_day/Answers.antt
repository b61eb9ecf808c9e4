use Rattle.humantime.specs.PrivateFunctions.{words_from}
use Rattle.humantime.specs.Values.{seconds_per_day}
use Rattle.std.proofs.Common.{None, arith, length}
use Rattle.std.proofs.lemmas.Bool.Decides.{nat_tests}
use Rattle.humantime.proofs.UnitWords.{at_each_length, from_day}
use Rattle.humantime.proofs.unit.scale_from_day.Goals as goal

pub returns-in_default : goal.returns-in_default
returns-in_default c =
    rw (from_day c.args.word.now c.utf8.word)
    (at_each_length c.args.word.now _ (words_from seconds_per_day) None (length c.args.word.now)
    (λ n. grind (arith, nat_tests)) (λ n. grind (arith, nat_tests)) (λ n. grind (arith, nat_tests))
    (λ n. grind (arith, nat_tests))
    (λ n. grind (arith, nat_tests)) (λ n. grind (arith, nat_tests)) (λ n. grind (arith, nat_tests))
    (λ n. grind (arith, nat_tests))
    (λ n. grind (arith, nat_tests)) (λ n. grind (arith, nat_tests)) (λ n. grind (arith, nat_tests))
    (λ n. grind (arith, nat_tests)))
