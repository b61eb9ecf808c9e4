use Rattle.std.proofs.Common.{rules}
use Rattle.std.proofs.lemmas.Bool.Decides.{Decides-like}
use Rattle.humantime.proofs.Theorems.{stamps_between}
use Rattle.humantime_uses.proofs.timestamps.is_between.Goals as goal

pub returns : goal.returns
returns c = λ t a b printed first second.
    let law = stamps_between a b t 3 c.args.from.now c.args.to.now _ first second printed in
    let value = c.contains.ensures.value in
    Decides-like c.contains.result law.0 law.1 (rw value (search rules))
