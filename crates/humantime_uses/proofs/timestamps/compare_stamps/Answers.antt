use Rattle.std.proofs.Common.{◌∙◌}
use Rattle.humantime.proofs.Theorems.{texts_in_order}
use Rattle.humantime_uses.proofs.timestamps.compare_stamps.Goals as goal

pub returns : goal.returns
returns c =
    λ a b first second read other. c.cmp.ensures ∙ texts_in_order 3 _ _ a b first second read other
