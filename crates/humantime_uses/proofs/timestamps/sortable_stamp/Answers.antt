use Rattle.std.proofs.Common.{refl, arith}
use Rattle.std.proofs.lemmas.Grind.{common_steps}
use Rattle.humantime.proofs.Theorems.{weak_printable}
use Rattle.humantime_uses.proofs.timestamps.sortable_stamp.Goals as goal

pub returns-clause-stamp : goal.returns-clause-stamp
returns-clause-stamp c t same =
    let read = c.in_ok-parse_rfc3339_weak.ensures in
    let answer = read.answer in
    let printable = weak_printable _ c.in_ok-parse_rfc3339_weak.field-0 ((read.value _).0 refl) in
    grind (arith, common_steps)
