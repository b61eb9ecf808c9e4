use Rattle.std.proofs.Common.{◌≡◌, ℕ, List, refl, sym, ◌∙◌, arith, ◌↔◌, ℤ, Ok}
use Rattle.std.proofs.lemmas.Slice.Eq.{bytes_eq-Decides}
use Rattle.humantime.specs.Prelude.{IsPrinted, IsPrintedWith, IsPrintable, strict_answer}
use Rattle.humantime.proofs.Theorems.{printed_if_read_back, strict_printable, printed_moment_reads}
use Rattle.humantime_uses.proofs.timestamps.is_stamp.Goals as goal

-- The text is the printed one of the moment that it is parsed to if and only if it is a printed
-- text.
is_again : (text stamp : List ℕ) (t : ℤ) → strict_answer text ≡ Ok t → IsPrintable t
    → IsPrinted t 3 stamp → (stamp ≡ text) ↔ IsPrintedWith 3 text
is_again text stamp t read printable printed =
    let law = printed_if_read_back 3 text in
    let one = (printed_moment_reads t 3 (omega arith)).one printable in (
      (λ same. (t, rw same at printed)),
      (λ p. let again = law.0 p in let moment : again.0 ≡ t = grind (arith, again.1, read) in
          one.2 stamp printed ∙ sym (one.2 text (rw moment at again.2))),
    )

pub returns-in-Some : goal.returns-in-Some
returns-in-Some c =
    let printable = strict_printable _ c.in-Ok.moment ((c.in-Ok.ensures.value _).0 refl) in
    let printed = rw (
      c.format_rfc3339_millis.ensures.moment,
      c.format_rfc3339_millis.ensures.places,
    ) at c.in-Some.ensures.text in
    let again = is_again _ _ _ (sym c.in-Ok.ensures.answer) printable printed in
    let same = bytes_eq-Decides c.in-Some.stamp.now c.args.text.now in
    rw c.eq.ensures ((λ is. again.0 (same.0 is)), (λ is. same.1 (again.1 is)))

pub returns-in-None : goal.returns-in-None
returns-in-None c =
    let printable = strict_printable _ c.in-Ok.moment ((c.in-Ok.ensures.value _).0 refl) in
    let within =
    (rw c.format_rfc3339_millis.ensures.moment at c.in-None.ensures.within).1 printable in
    grind (arith, within)

pub returns-in-Err : goal.returns-in-Err
returns-in-Err c = grind (arith, printed_if_read_back 3 c.args.text.now, c.in-Err.ensures.answer)
