use Rattle.std.proofs.Common.{refl}
use Rattle.std.proofs.lemmas.Result.{on_ok_weaker}
use Rattle.humantime_settings.specs.Texts.{one_text}
use Rattle.humantime_settings.proofs.fields.AnyValue.write.Goals as goal

pub returns : goal.returns
returns g c =
    on_ok_weaker c.write_text.result (λ h. (one_text h.0, (h.0, refl, h.1), (h.0, refl, h.2), h.3))
    c.write_text.ensures
