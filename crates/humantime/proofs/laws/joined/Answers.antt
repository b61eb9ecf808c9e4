use Rattle.std.proofs.lemmas.Str.{chars-append}
use Rattle.humantime.proofs.Theorems.{joined}
use Rattle.humantime.proofs.laws.joined.Goals as goal

pub returns : goal.returns
returns c = record { law = joined _ _; text = chars-append _ _ c.utf8.a }
