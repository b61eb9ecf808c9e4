use Rattle.std.proofs.Common.{rules}
use Rattle.humantime_cli.proofs.AnswerLemmas.{to_err}
use Rattle.humantime_cli.proofs.command.write_error.Goals as goal

pub returns : goal.returns
returns g c = λ out. search (rules, to_err)
