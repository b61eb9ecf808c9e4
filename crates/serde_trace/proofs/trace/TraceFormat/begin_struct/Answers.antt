use Rattle.std.proofs.Common.{rules, arith, refl, ⊎_elim, inl, inr}
use Rattle.serde.specs.Event.{struct_begins}
use Rattle.serde.specs.Steps.{Begins}
use Rattle.serde_trace.proofs.trace.TraceFormat.begin_struct.Goals as goal

pub returns : goal.returns
returns g c =
    let old = c.args.self.now in
    let from = old.from in
    let event = struct_begins c.in_ok-is_seq.is_seq in
    let now = c.begin_struct.new.self in
    let begun : Begins g.F.Format.gives g.F.Format.stays from.now event now =
    grind (arith, rules) in
    ⊎_elim
    (λ given. inl (given, begun.1))
    (λ looked.
    let format = record from.now.format { now = looked.0 } in
    let after = record old { from = record from { now = record from.now { format = format } } } in
    inr (after, (looked.1, refl), (looked.2, begun.1)))
    begun.0
