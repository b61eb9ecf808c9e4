use Rattle.std.proofs.Common.{◌^◌, arith}
use Rattle.std.proofs.lemmas.List.FromFn.{get_or-map-range_with_len}
use Rattle.humantime.proofs.duration.digits.power_of_ten.Goals as goal

pub returns : goal.returns
returns c =
    get_or-map-range_with_len (λ k. 10 ^ k) 0 20 c.args.exponent c.args.exponent 0
    (omega (arith, c.requires)) (omega arith)
