use Rattle.std.proofs.Common.{◌≡◌, inr, refl, rules}
use Rattle.std.specs.Prelude.{Some}
use Rattle.humantime_clap.specs.Values.{string_of}
use Rattle.humantime_clap.proofs.Leaves.{unbuilt}
use Rattle.humantime_clap.proofs.optional_value_of.Goals as goal

pub returns-clause-value : goal.returns-clause-value
returns-clause-value g c =
    let string = string_of c.args.matches.now c.args.id.now in
    let given : string ≡ Some c.in-Some.value.now = search rules in
    rw given (inr (search rules, (c.in-Err.error, search rules)))

pub returns-in_default-clause-command : goal.returns-in_default-clause-command
returns-in_default-clause-command g c = (refl, unbuilt _ _ refl)

pub returns-in-Ok-clause-command : goal.returns-in-Ok-clause-command
returns-in-Ok-clause-command g c = (refl, unbuilt _ _ refl)

pub returns-in_err-text-clause-command : goal.returns-in_err-text-clause-command
returns-in_err-text-clause-command g c = (search rules, unbuilt _ _ refl)

pub returns-in_err-error-clause-command : goal.returns-in_err-error-clause-command
returns-in_err-error-clause-command g c = (search rules, c.error.ensures.after)

pub returns-clause-command : goal.returns-clause-command
returns-clause-command g c = (tt, c.error.ensures.after)
