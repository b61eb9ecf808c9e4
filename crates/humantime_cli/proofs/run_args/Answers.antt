use Rattle.std.proofs.Common.{◌≡◌, map, string_bytes, arith, rules}
use Rattle.humantime_cli.specs.Answers.{texts}
use Rattle.humantime_cli.proofs.AnswerLemmas.{flush_ends}
use Rattle.humantime_cli.proofs.run_args.Goals as goal

pub returns : goal.returns
returns g c =
    let same : texts c.as_slice.result.now ≡ map string_bytes c.args.args.now = grind arith in
    search (rules, flush_ends)
