use Rattle.std.proofs.Common.{rules}
use Rattle.humantime_cli.proofs.AnswerLemmas.{to_out}
use Rattle.humantime_cli.proofs.command.write_output.Goals as goal

pub returns : goal.returns
returns g c = λ err. search (rules, to_out)
