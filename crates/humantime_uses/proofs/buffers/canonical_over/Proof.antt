use Rattle.std.proofs.Common.{OnErr, ◌≡◌, ℕ, List, [], ◌∷◌, refl, MutBor, arith}
use Rattle.std.proofs.raw_atomic.Walks.{proved}
use Rattle.std.specs.Borrow.{Array, u8}
use base.Fraction.{full_share}
use contract.Running.{tables}
use denote.Exit.{yes}
use denote.Memory.{lone}
use denote.Ref.{mut_vals, mut_Tells}
use denote.Signature.{plain, type_at}
use denote.Steps.{nothing}
use denote.Text.{StrRefOf, str-laws, Str}
use denote.Triple.Call.{calls_at}
use denote.Triple.Spec.{triple_of}
use denote.Triple.Table.{framed}
use denote.Triple.Walked.{Stays, stay_dropped, Goes-dropped, stay_ref, Goes-ref, ends_at, says}
use mir.Syntax.{named}
use mir.Val.{Val, vunit}
use types.ByLocal.{alloc_all, pass_all, free_all, look_at, get, through, sets, lands_as}
use types.Kit.{raw, ◌$◌, ◌∵◌, !, qed, done, move, keep, fjoin, feq_i, suffices, frame}
use types.Run.{enter, of_opd, unit_lit, addr, stop, no_more, and_then, returns}
use Rattle.humantime.proofs.Buffers.{returned, hears}
use Rattle.humantime_uses.proofs.Kept.{lent, back, last_held}
use Rattle.humantime.specs.contracts.canonical as g
use Rattle.humantime.proofs.canonical.Met as g-met
use Rattle.humantime_uses.specs.contracts.buffers.canonical_over as f
use Rattle.humantime_uses.proofs.buffers.canonical_over.Statement.{statement}
use Rattle.humantime_uses.proofs.buffers.canonical_over.Code as code
use Rattle.humantime_uses.proofs.buffers.canonical_over.Lts as lts

pub canonical_over_spec : {M : Type 1} → statement M
canonical_over_spec {M} 𝓤 𝓛 𝓜 𝓡 wired =
    let stayed : Stays f.ended.signature.params f.ended.kept =
    (stay_dropped _ yes, (stay_ref (1 ∷ []) tt (plain (λ _. Array u8 64)), tt)) in
    let str = λ (κ : List ℕ). str-laws (record { mir = named 0; lft = κ }) in
    let c = f.clauses 𝓛 𝓜.mem 𝓡.returns in
    proved 𝓛 f.ended stayed c 𝓜 𝓡 (
      Goes-dropped 𝓛 2 (StrRefOf (0 ∷ []) tt) yes (λ κs x w. refl),
      (Goes-ref 𝓛 2 1 tt (plain (λ _. Array u8 64)), tt),
    )
    f.Key.name code.function (code.unfolded 𝓤 𝓛.H 𝓜 𝓡 wired)
    (λ κs. ((λ x. (str κs.0).val x ∷ []), (mut_vals, tt))) (λ κs.
    ((str κs.0).tells, (mut_Tells (named 1) κs.1.0 (Array u8 64), tt))) (λ κs qs bounds a _ are.
    let x = a.0 in let r = a.1.0 in
    let G = triple_of 𝓛 g.signature (g.spec 𝓛 𝓜.mem 𝓡.returns) in
    let y : G.Ghost = ((κs, qs, bounds, a, ((str κs.0).val x ∷ [], (mut_vals r, tt))), tt) in
    qed 𝓛 (raw (G.pre y) ∷ []) ∵ enter ! _ _ _ _ _ $
    alloc_all ! (λ l. pass_all ! refl ((((str κs.0).lawful 𝓛).typed x _ are.0).0, ((tt, tt), tt)) $
    sets ! (addr ! (through ! refl (stop !))) refl (tt, tt) $
    lent ! tt (Array u8 64) κs qs ((Str (named 0) κs.0).own_val x ((str κs.0).val x ∷ [])) r (λ α δ.
    let loan : MutBor (List ℕ) = record r { ghost_name = δ } in
    let z : G.Ghost = (
      (
        (κs.0, (α ∷ [], tt)),
        (qs.0, (full_share, tt)),
        bounds,
        (x, (loan, tt)),
        ((str κs.0).val x ∷ [], (mut_vals r, tt)),
      ),
      tt,
    ) in
    calls_at ! (framed 𝓤 𝓛.H 𝓜 (tables 𝓤 𝓛.H 𝓜 𝓡 𝓡.env)) G
    (g-met.met 𝓤 𝓛 𝓜 𝓡 (code.calls-humantime::canonical 𝓡.env wired)) z
    (and_then ! (get ! refl) (and_then ! (get ! refl) (no_more !)))
    (λ v. returned ! tt g.ended (g.clauses 𝓛 𝓜.mem 𝓡.returns) z v (λ t ws is.
    hears !
    (λ text.
    hears !
    (λ fault.
    hears ! (λ answer. hears !
    (λ place. last_held ! 64 loan (λ last. OnErr t (last ≡ r.now)) (λ last same.
    -- [what says the last bytes; the result; nothing of the parameters; the tokens; what is kept of
    -- `buf`]
    lands_as ! refl refl ((lts.r-0.laws M 𝓤 𝓛).typed z.0.0 t v is []
    (lone (type_at g.signature.result z.0.0).mir) (λ _. refl)) $
    move ! (0 ∷ 3 ∷ 4 ∷ []) $ back ! tt (Array u8 64) κs qs r last $
    sets ! (of_opd ! (unit_lit !)) refl (tt, tt) $
    returns ! (look_at ! 0 refl) $ free_all ! refl $ keep ! (0 ∷ 1 ∷ []) $
    -- [the tokens; `buf`]
    suffices ! _ (ends_at 𝓛 f.ended stayed c y vunit tt (tt, (last, tt)) (tt, (tt, tt))) $
    says ! (λ e has. grind (arith, ((fault e).1 has), same)) $ frame ! $
    nothing ! $ move ! (1 ∷ 0 ∷ []) $ fjoin ! $ nothing ! $ fjoin ! $
    feq_i ! (List Val) (vunit ∷ []) (vunit ∷ []) refl $ move ! (1 ∷ 0 ∷ []) $ done !))))))))))
