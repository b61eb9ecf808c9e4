use Rattle.std.proofs.Common.{arith}
use Rattle.humantime.proofs.SpanParts.{spans}
use Rattle.humantime.proofs.duration.scan.complete_span.Goals as goal

pub returns-clause-offsets : goal.returns-clause-offsets
returns-clause-offsets c =
    grind (arith, spans)
