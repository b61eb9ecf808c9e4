use Rattle.std.proofs.Common.{take}
use Rattle.serde.specs.Event.{WritesEach}
use Rattle.humantime_settings.proofs.Forms.{WritesText}
use Rattle.humantime_settings.proofs.fields.VecValue.write.Given as goal

abbrev pub invariant-loop-item : goal.invariant-loop-item
invariant-loop-item g l =
    WritesEach (WritesText g.T.Text.IsPrintedAs g.T.Text.IsParsedFrom)
    (take l.item-index l.item-items) (g.S.Serializer.written l.initial.out)
    (g.S.Serializer.written l.out)
