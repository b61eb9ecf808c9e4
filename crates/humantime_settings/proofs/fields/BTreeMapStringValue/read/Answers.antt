use Rattle.std.proofs.Common.{[], ◌∷◌, ◌++◌, None, String, Global, string_bytes, string_cmp, refl, rules, ◌∙◌}
use Rattle.std.specs.Ordering.{eq_by_cmp}
use Rattle.std.proofs.lemmas.Map.{update_all_push}
use Rattle.std.specs.BTreeMap.{get}
use Rattle.humantime_settings.specs.Texts.{IsEntry, ReadsEntry, entries}
use Rattle.humantime_settings.proofs.Forms.{one_more_in_turn, ReadsAs, all_read}
use Rattle.humantime_settings.proofs.fields.BTreeMapStringValue.read.Goals as goal

pub loop-preserved : goal.loop-preserved
loop-preserved g c =
    let so_far = c.loop.invariant in
    let read = c.in_ok-read_text.ensures in
    let pair : String Global × g.row.T.Denot = (c.in_ok-key.key, c.in_ok-read_text.field-0) in (
      so_far.0 ++ pair ∷ [],
      (
        λ q. c.in-Ok.ensures.updates.0 q ∙ update_all_push (eq_by_cmp string_cmp) (λ _. None)
            (get string_cmp c.loop.entries) so_far.0 pair q (so_far.1.0 q),
        c.in-Ok.ensures.ordered,
      ),
      one_more_in_turn (ReadsAs (IsEntry g.T.Text.IsParsedFrom) (ReadsEntry g.F.Format.gives)) _ _ _
          _ _ so_far.2 (
            (string_bytes c.in_ok-key.key, read.0),
            (refl, read.1),
            (
              c.next_entry.new.self,
              c.string.new.self,
              search rules,
              c.in_ok-key.ensures,
              read.2,
            ),
          ),
    )

pub returns-then-not-branch : goal.returns-then-not-branch
returns-then-not-branch g c =
    let so_far = c.loop.invariant in
    let all =
    all_read (IsEntry g.T.Text.IsParsedFrom) (ReadsEntry g.F.Format.gives) _ _ _ so_far.2 in (
      entries all.0,
      (so_far.0, so_far.1, (all.0, refl, all.1)),
      (c.begin_map.new.self, c.loop.from, c.in_ok-begin_map.ensures, all.2, search rules),
    )
