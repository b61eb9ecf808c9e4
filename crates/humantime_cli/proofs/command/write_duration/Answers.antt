use Rattle.std.proofs.Common.{rules}
use Rattle.humantime_cli.proofs.AnswerLemmas.{duration_ends}
use Rattle.humantime_cli.proofs.command.write_duration.Goals as goal

pub returns : goal.returns
returns g c = search (rules, duration_ends)
