use Rattle.std.proofs.Common.{inl, refl}
use Rattle.std.proofs.lemmas.Result.{IfOk-weaker}
use Rattle.humantime_settings.specs.Texts.{one_text}
use Rattle.humantime_settings.proofs.fields.AnyValue.read.Goals as goal

pub returns : goal.returns
returns g c =
    IfOk-weaker c.read_text.result _ _ (λ v h. (one_text h.0, (h.0, refl, h.1), (inl h.2.0, h.2.1)))
    c.read_text.ensures
