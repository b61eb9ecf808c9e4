use Rattle.std.proofs.Common.{arith}
use Rattle.std.proofs.lemmas.Grind.{common_steps}
use Rattle.humantime_cli.proofs.AnswerLemmas.{usage_ends, not_two, unnamed}
use Rattle.humantime_cli.proofs.command.answer.Goals as goal

pub returns-in_default : goal.returns-in_default
returns-in_default g c = grind (arith, common_steps, usage_ends, not_two, unnamed)
