use Rattle.std.proofs.Common.{arith}
use Rattle.humantime_std.proofs.Overflows.{nth_is}
use Rattle.humantime_std.proofs.located.span_end.Goals as goal

pub returns : goal.returns
returns c =
    grind (
      arith,
      (nth_is _ c.spans.result c.nth-item.new.self c.nth-item.result _ c.spans.ensures.items
          c.nth-item.ensures.ran),
    )
