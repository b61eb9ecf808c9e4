use Rattle.std.proofs.Common.{rules}
use Rattle.std.proofs.lemmas.Result.{on_ok_weaker}
use Rattle.serde.proofs.Events.{WritesEach-more, WritesSeq-ends}
use Rattle.humantime_settings.proofs.Forms.{WritesText, list_written}
use Rattle.humantime_settings.proofs.fields.VecValue.write.Goals as goal

pub loop-item-preserved : goal.loop-item-preserved
loop-item-preserved g c =
    let writes = WritesText g.T.Text.IsPrintedAs g.T.Text.IsParsedFrom in
    WritesEach-more writes _ _ _ _ _ _ c.loop-item-test.true c.item-item.is c.loop-item.invariant
    c.in_ok-write_text.ensures

pub returns : goal.returns
returns g c =
    let writes = WritesText g.T.Text.IsPrintedAs g.T.Text.IsParsedFrom in
    let all =
    WritesSeq-ends writes _ _ _ c.len.result _ _ _ (g.S.Serializer.written c.end_seq.new.self)
    c.deref-item-items.ensures.value (search rules)
    c.loop-item-test.false c.in_ok-begin_seq.ensures c.loop-item.invariant in
    on_ok_weaker c.end_seq.result (λ ended.
    list_written g.T.Text.IsPrintedAs g.T.Text.IsParsedFrom _ _ _ (all ended)) c.end_seq.ensures
