use Rattle.std.proofs.Common.{◌≡◌, length, Some, string_bytes, refl, subst, arith, rules}
use Rattle.std.proofs.lemmas.Grind.{common_steps}
use Rattle.std.proofs.lemmas.Result.{on_ok_weaker}
use Rattle.serde.specs.Event.{Logs, map_begins}
use Rattle.serde.proofs.Events.{WritesUpTo-all, WritesUpTo-more}
use Rattle.humantime_settings.proofs.Forms.{WritesPair, map_written}
use Rattle.humantime_settings.proofs.fields.BTreeMapStringValue.write.Goals as goal

pub loop-key-preserved : goal.loop-key-preserved
loop-key-preserved g c =
    let wrote = c.in_ok-write_text.ensures in
    let key = rw c.deref.ensures at c.in_ok-str.ensures in
    let writes = WritesPair g.T.Text.IsPrintedAs g.T.Text.IsParsedFrom in
    WritesUpTo-more writes _ _ _ (
      c.in-Some.key.now,
      c.in-Some.value.now,
    ) _ _ _ c.loop-key.invariant c.in-Some.ensures.steps (
      (string_bytes c.in-Some.key.now, wrote.0),
      (refl, wrote.1),
      (refl, wrote.2),
      (_, _, _, c.in_ok-begin_key.ensures, key, c.in_ok-end_key.ensures, wrote.3),
    )

pub returns : goal.returns
returns g c =
    let len : c.len.result ≡ length c.args.self.now.entries = search rules in
    let begun =
    subst (λ n. Logs (g.S.Serializer.written c.args.out.now)
    (g.S.Serializer.written c.begin_map.new.self) (map_begins (Some n)))
    len c.in_ok-begin_map.ensures in
    let each =
    WritesUpTo-all (WritesPair g.T.Text.IsPrintedAs g.T.Text.IsParsedFrom) _ _ _ _
    c.loop-key.invariant (grind (arith, common_steps, c.in-None.ensures.steps.0)) in
    on_ok_weaker c.end_map.result (map_written g.T.Text.IsPrintedAs g.T.Text.IsParsedFrom
    c.args.self.now _ _ _ _ c.len.ensures.ordered begun each) c.end_map.ensures
