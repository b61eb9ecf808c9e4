use Rattle.std.proofs.Common.{◌≡◌, ◌-◌, ◌≤◌, suc, chars}
use Rattle.humantime_std.specs.Located.{BeginsWithin, span_start}
use Rattle.humantime_std.proofs.located.overflow_range.Given as goal

abbrev pub invariant-loop-low : goal.invariant-loop-low
invariant-loop-low l = record {
  order : l.low ≤ l.high;
  fit : BeginsWithin (chars l.text) l.low;
  beyond : ¬ (BeginsWithin (chars l.text) (suc l.high));
  start : l.start ≡ span_start l.low (chars l.text);
}

abbrev pub decreases-loop-low : goal.decreases-loop-low
decreases-loop-low l = l.high - l.low
