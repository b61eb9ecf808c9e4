use Rattle.serde.proofs.Events.{WritesUpTo}
use Rattle.humantime_settings.proofs.Forms.{WritesPair}
use Rattle.humantime_settings.proofs.fields.BTreeMapStringValue.write.Given as goal

abbrev pub invariant-loop-key : goal.invariant-loop-key
invariant-loop-key g l =
    WritesUpTo (WritesPair g.T.Text.IsPrintedAs g.T.Text.IsParsedFrom) l.self.entries l.key-iterator
    (g.S.Serializer.written l.initial.out) (g.S.Serializer.written l.out)
