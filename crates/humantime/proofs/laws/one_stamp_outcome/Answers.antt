use Rattle.humantime.proofs.TimestampOutcomes.{strict_outcome, weak_outcome}
use Rattle.humantime.proofs.laws.one_stamp_outcome.Goals as goal

pub returns : goal.returns
returns c = record { weak = weak_outcome _; strict = strict_outcome _ }
