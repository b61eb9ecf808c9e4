use Rattle.std.proofs.Common.{◌≡◌, [], chars, refl, arith}
use Rattle.humantime.proofs.Sums.{within_tells}
use Rattle.humantime_std.proofs.Overflows.{overflow_inside, overflows_after, too_many, trimmed_at}
use Rattle.humantime_std.specs.Located.{OverflowsAt}
use Rattle.humantime_std.proofs.located.overflow_range.Goals as goal

pub loop-low-init : goal.loop-low-init
loop-low-init c = record {
  order = omega arith;
  fit = record { begins = tt; within = (within_tells [] tt).0 refl };
  beyond = too_many _ c.utf8.text;
  start = trimmed_at _ _ _ c.utf8.text c.trim_start.utf8 c.trim_start.ensures.trim;
}

pub returns : goal.returns
returns c =
    let done : c.loop-low.high ≡ c.loop-low.low = omega arith in
    let beyond = rw done at c.loop-low.invariant.beyond in
    let place : OverflowsAt (chars c.args.text.now) c.loop-low.start c.unwrap_or.result =
    rw (c.loop-low.invariant.start, c.unwrap_or.ensures) (overflows_after _ _ _ _ c.utf8.text
    c.requires c.loop-low.invariant.fit beyond c.span_end.ensures (omega arith)) in
    record { range = place; boundaries = overflow_inside _ _ _ c.utf8.text place }
