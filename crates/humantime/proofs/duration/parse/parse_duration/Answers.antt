use Rattle.humantime.proofs.Outcomes.{is_answer}
use Rattle.humantime.proofs.duration.parse.parse_duration.Goals as goal

pub returns : goal.returns
returns c =
    let read = c.read_duration.ensures in
    is_answer c.args.s.now _ read.value read.offsets
