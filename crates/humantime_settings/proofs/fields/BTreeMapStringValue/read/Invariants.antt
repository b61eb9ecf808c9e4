use Rattle.std.proofs.Common.{List, String, Global, string_cmp}
use Rattle.std.specs.BTreeMap.{IsFromIterResult}
use Rattle.humantime_settings.specs.Texts.{InTurn, IsEntry, ReadsEntry}
use Rattle.humantime_settings.proofs.Forms.{ReadsAs}
use Rattle.humantime_settings.proofs.fields.BTreeMapStringValue.read.Given as goal

abbrev pub invariant-loop : goal.invariant-loop
invariant-loop g l =
    (pairs : List (String Global × g.row.T.Denot)) × IsFromIterResult string_cmp pairs l.entries
    × InTurn (ReadsAs (IsEntry g.T.Text.IsParsedFrom) (ReadsEntry g.F.Format.gives)) pairs l.initial.from l.from
