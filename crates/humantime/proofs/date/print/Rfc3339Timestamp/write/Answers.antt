use Rattle.humantime.proofs.PrintedTimestamps.{shown_printed}
use Rattle.humantime.proofs.date.print.Rfc3339Timestamp.write.Goals as goal

pub returns-clause-text : goal.returns-clause-text
returns-clause-text c =
    rw c.write_parts.ensures.text
    (shown_printed _ _ _ _ c.args.self.now.few c.write_parts.ensures.given)
