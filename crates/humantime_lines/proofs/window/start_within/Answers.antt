use Rattle.std.proofs.Common.{◌≡◌, ◌∙◌, [], ap, arith, chars, refl, rules, sym}
use Rattle.std.proofs.lemmas.Str.{IsUtf8-nil, chars-nil}
use Rattle.humantime_lines.specs.MarkedLines.{start_within}
use Rattle.humantime_lines.proofs.Windows.{start_boundary, start_ends, start_read, start_within-stops}
use Rattle.humantime_lines.proofs.window.start_within.Goals as goal
use Rattle.humantime_lines.proofs.window.start_within.Goals.{in-None-1}
use Rattle.humantime_lines.proofs.window.start_within.Goals.{in-Some+else-room-left}

pub chars-init : goal.chars-init
chars-init c = record {
  utf8 = search rules;
  started = record { front = []; whole = refl; utf8 = IsUtf8-nil; same = rw chars-nil refl };
}

pub chars-preserved : goal.chars-preserved
chars-preserved c = record {
  utf8 = search rules;
  started = search (rules, start_read);
}

pub split_at-requires : goal.split_at-requires
split_at-requires c = start_boundary c.chars.invariant.started c.chars.invariant.utf8

pub returns : goal.returns
returns c =
    let stops : start_within c.chars.left (chars c.chars.rest.now) ≡ [] =
    elim c.match-split_first_char.branch [
      | in-None-1 w ↦ grind (arith, chars-nil)
      | in-Some+else-room-left w ↦ grind (arith, w.in-Some.ensures.chars, start_within-stops)
    ] in
    ap chars c.split_at.ensures.front ∙ sym (start_ends c.chars.invariant.started stops)
