use Rattle.std.proofs.Common.{◌≡◌, chars, length, map}
use Rattle.humantime.specs.DurationResults.{span_in, item_views}
use Rattle.humantime.specs.SpanResults.{items_left, text_of}
use Rattle.humantime.specs.Walks.{sum_spans}
use Rattle.humantime.proofs.duration.parse.sum_of.Given as goal

abbrev pub invariant-loop-item : goal.invariant-loop-item
invariant-loop-item l = record {
  so_far : sum_spans l.total (map span_in (items_left l.items))
      ≡ sum_spans 0 (map span_in (item_views (chars l.text)));
  text : text_of l.items ≡ l.text;
}

abbrev pub decreases-loop-item : goal.decreases-loop-item
decreases-loop-item l = length (items_left l.items)
