use Rattle.std.proofs.Common.{◌∙◌, [], ap, append-nil, arith, chars, inl, inr, rules, sym}
use Rattle.std.proofs.lemmas.Str.{IsUtf8-nil, chars-nil}
use Rattle.humantime_lines.proofs.Windows.{Stopped, end_boundary, end_read, end_stops}
use Rattle.humantime_lines.proofs.window.end_within.Goals as goal
use Rattle.humantime_lines.proofs.window.end_within.Goals.{in-None-1, in-Some+else-room-left}

pub chars-init : goal.chars-init
chars-init c = record {
  utf8 = search rules;
  ended = record {
    back = [];
    whole = sym (append-nil _);
    utf8 = IsUtf8-nil;
    room = rw chars-nil (omega arith);
  };
}

pub chars-preserved : goal.chars-preserved
chars-preserved c = record {
  utf8 = search rules;
  ended = search (rules, end_read);
}

pub split_at-requires : goal.split_at-requires
split_at-requires c = end_boundary c.chars.invariant.ended

pub returns : goal.returns
returns c =
    let stopped : Stopped (chars c.chars.rest.now) c.chars.left =
    elim c.match-split_last_char.branch [
      | in-None-1 w ↦ inl (grind (arith, chars-nil))
      | in-Some+else-room-left w ↦
          inr (_, _, w.in-Some.ensures.chars, omega arith)
    ] in
    let now = c.chars.invariant in
    ap chars c.split_at.ensures.back ∙ sym (end_stops now.ended now.utf8 stopped)
