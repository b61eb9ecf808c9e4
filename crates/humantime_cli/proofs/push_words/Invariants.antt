use Rattle.std.proofs.Common.{◌≡◌, ◌++◌, length, map, string_bytes}
use Rattle.humantime_cli.specs.Answers.{texts}
use Rattle.humantime_cli.proofs.push_words.Given as goal

abbrev pub invariant-arguments : goal.invariant-arguments
invariant-arguments l =
    texts l.words.items ++ map string_bytes l.args
    ≡ texts l.fn.words.items ++ map string_bytes l.fn.args

abbrev pub decreases-arguments : goal.decreases-arguments
decreases-arguments l = length l.args
