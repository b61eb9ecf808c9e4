use Rattle.serde.specs.Event.{text}
use Rattle.serde.specs.Steps.{Begins}
use Rattle.humantime_settings.specs.Texts.{InTurn}
use Rattle.humantime_settings.proofs.Forms.{ReadsAs}
use Rattle.humantime_settings.proofs.fields.VecValue.read.Given as goal

abbrev pub invariant-loop : goal.invariant-loop
invariant-loop g l =
    InTurn (ReadsAs g.T.Text.IsParsedFrom (λ t a b.
    Begins g.F.Format.gives g.F.Format.stays a (text t) b)) l.items.items l.initial.from l.from
