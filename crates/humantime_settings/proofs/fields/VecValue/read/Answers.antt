use Rattle.std.proofs.Common.{refl, rules}
use Rattle.serde.specs.Event.{text}
use Rattle.serde.specs.Steps.{Begins}
use Rattle.humantime_settings.specs.Texts.{texts}
use Rattle.humantime_settings.proofs.Forms.{one_more_in_turn, ReadsAs, all_read}
use Rattle.humantime_settings.proofs.fields.VecValue.read.Goals as goal

pub loop-preserved : goal.loop-preserved
loop-preserved g c =
    let read = c.in_ok-read_text.ensures in
    let step = ReadsAs g.T.Text.IsParsedFrom (λ t a b. Begins g.F.Format.gives g.F.Format.stays a (text t) b) in
    rw c.in-Ok.ensures.items (one_more_in_turn step _ _ _ _ _ c.loop.invariant (read.0, read.1, search rules))

pub returns-then-not-branch : goal.returns-then-not-branch
returns-then-not-branch g c =
    let all =
    all_read g.T.Text.IsParsedFrom (λ t a b.
    Begins g.F.Format.gives g.F.Format.stays a (text t) b) _ _ _ c.loop.invariant in (
      texts all.0,
      (all.0, refl, all.1),
      (c.begin_seq.new.self, c.loop.from, c.in_ok-begin_seq.ensures, all.2, search rules),
    )
