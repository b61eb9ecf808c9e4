use Rattle.std.proofs.Common.{refl, rules}
use Rattle.humantime_settings.specs.Texts.{one_text}
use Rattle.humantime_settings.proofs.fields.OptionValue.read.Goals as goal

pub returns : goal.returns
returns g c =
    let read = c.in_ok-read_text.ensures in (one_text read.0, (read.0, refl, read.1), search rules)
