use Rattle.std.proofs.Common.{arith}
use Rattle.std.proofs.lemmas.Bool.Decides.{nat_tests}
use Rattle.humantime.proofs.duration.iter.SpanIterIterator.next.Goals as goal

pub read_span-requires-clause-nonempty : goal.read_span-requires-clause-nonempty
read_span-requires-clause-nonempty c = grind (arith, nat_tests)
