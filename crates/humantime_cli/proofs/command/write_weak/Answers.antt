use Rattle.std.proofs.Common.{rules}
use Rattle.humantime_cli.proofs.AnswerLemmas.{weak_ends, weak_has_text}
use Rattle.humantime_cli.proofs.command.write_weak.Goals as goal

pub write_result-requires-clause-value : goal.write_result-requires-clause-value
write_result-requires-clause-value g c = search (rules, weak_has_text)

pub returns : goal.returns
returns g c = search (rules, weak_ends)
