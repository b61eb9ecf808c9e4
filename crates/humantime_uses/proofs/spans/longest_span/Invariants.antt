use Rattle.std.proofs.Common.{◌≡◌, max}
use Rattle.humantime.specs.Prelude.{items_left, text_of}
use Rattle.humantime_uses.specs.SpanItems.{longest_of}
use Rattle.humantime_uses.proofs.spans.longest_span.Given as goal

abbrev pub invariant-loop-item : goal.invariant-loop-item
invariant-loop-item l = record {
  text : text_of l.item-iterator ≡ l.text;
  longest : max l.longest (longest_of l.text (items_left l.item-iterator))
      ≡ longest_of l.text (items_left l.initial.item-iterator);
}
