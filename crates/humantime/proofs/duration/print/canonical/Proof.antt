-- The contract of `canonical`, proved by hand, in the five steps that
-- `proofs/date/print/Rfc3339Timestamp/text/Proof.antt` describes. Here the calls are those of
-- `write_canonical` and `text_or_error`.
use Rattle.std.proofs.Common.{IsUtf8, IfOk, OnErr, take, ◌≡◌, ℕ, ◌≤◌, List, [], ◌∷◌, refl, Bor, arith}
use Rattle.std.proofs.raw_atomic.Walks.{proved}
use Rattle.std.specs.Borrow.{Array, u8}
use base.Logic.{id⊢, emp}
use contract.Monad.{fact, fact_i}
use contract.Running.{tables}
use denote.Exit.{yes, no}
use denote.Memory.{lone}
use denote.Ref.{mut_vals, shr_vals, mut_Tells}
use denote.Signature.{plain, type_at}
use denote.Steps.{nothing, heard}
use denote.Text.{StrRefOf, str-laws}
use denote.Triple.Call.{calls_at}
use denote.Triple.Spec.{triple_of}
use denote.Triple.Table.{framed}
use denote.Triple.Walked.{Stays, stay_dropped, Goes-dropped, Goes-spent_ref, ends_at}
use mir.Syntax.{named}
use types.ByLocal.{alloc_all, pass_all, free_all, look_at, get, through, sets, lands_as}
use types.Kit.{raw, ◌$◌, ◌∵◌, !, qed, by, move, keep, use0, use2, join, fjoin, suffices, frame, group}
use types.Run.{enter, of_opd, addr, stop, no_more, and_then, returns}
use Rattle.humantime.proofs.Buffers.{holds, returned, hears, shares_last, tells}
use Rattle.humantime.proofs.CanonicalTexts.{answer_is_canonical, answer_is_fault}
use Rattle.humantime.specs.contracts.duration.print.canonical as f
use Rattle.humantime.proofs.duration.print.canonical.Statement.{statement}
use Rattle.humantime.proofs.duration.print.canonical.Code as code
use Rattle.humantime.proofs.duration.print.canonical.Lts as lts
use Rattle.humantime.specs.contracts.duration.print.write_canonical as g
use Rattle.humantime.proofs.duration.print.write_canonical.Met as g-met
use Rattle.humantime.specs.contracts.duration.print.text_or_error as h
use Rattle.humantime.proofs.duration.print.text_or_error.Met as h-met

pub canonical_spec : {M : Type 1} → statement M
canonical_spec {M} 𝓤 𝓛 𝓜 𝓡 wired =
    let str = λ (κ : List ℕ). str-laws (record { mir = named 0; lft = κ }) in
    let c = f.clauses 𝓛 𝓜.mem 𝓡.returns in
    let calls = framed 𝓤 𝓛.H 𝓜 (tables 𝓤 𝓛.H 𝓜 𝓡 𝓡.env) in
    let stayed : Stays f.ended.signature.params f.ended.kept =
    (stay_dropped _ yes, (stay_dropped _ no, tt)) in
    proved 𝓛 f.ended stayed c 𝓜 𝓡 (
      Goes-dropped 𝓛 2 (StrRefOf (0 ∷ []) tt) yes (λ κs x w. refl),
      (Goes-spent_ref 𝓛 2 (1 ∷ []) tt (plain (λ _. Array u8 64)), tt),
    )
    f.Key.name code.function (code.unfolded 𝓤 𝓛.H 𝓜 𝓡 wired)
    (λ κs. ((λ x. (str κs.0).val x ∷ []), (mut_vals, tt))) (λ κs.
    ((str κs.0).tells, (mut_Tells (named 1) κs.1.0 (Array u8 64), tt))) (λ κs qs bounds a _ are.
    let x = a.0 in let r = a.1.0 in
    let G = triple_of 𝓛 g.signature (g.spec 𝓛 𝓜.mem 𝓡.returns) in
    let y : G.Ghost = ((κs, qs, bounds, a, ((str κs.0).val x ∷ [], (mut_vals r, tt))), tt) in
    -- 1
    qed 𝓛 (raw (G.pre y) ∷ []) ∵ enter ! _ _ _ _ _ $
    alloc_all ! (λ l. pass_all ! refl ((((str κs.0).lawful 𝓛).typed x _ are.0).0, ((tt, tt), tt)) $
    sets ! (addr ! (through ! refl (stop !))) refl (tt, tt) $
    -- 2
    calls_at ! calls G (g-met.met 𝓤 𝓛 𝓜 𝓡 (code.calls-humantime::duration::print::write_canonical 𝓡.env wired)) y
    (and_then ! (get ! refl) (and_then ! (get ! refl) (no_more !)))
    (λ v. returned ! tt g.ended (g.clauses 𝓛 𝓜.mem 𝓡.returns) y v (λ m ws is.
    hears ! (λ same. hears ! (λ prefix. hears ! (λ answer. heard ! _ (λ place.
    -- [the length; what is left of the parameters; the tokens]
    let typed = (lts.r-0.laws M 𝓤 𝓛).typed κs m v is [] (lone (type_at g.signature.result κs).mir) (λ _. refl) in
    lands_as ! refl refl typed $ sets ! (of_opd ! (get ! refl)) refl typed $
    -- 3
    let last = ws.1.0 in
    let s : Bor (List ℕ) = record { ref_ptr = r.ref_ptr; now = last } in
    move ! (1 ∷ 2 ∷ []) $ shares_last ! tt 64 κs qs r last $
    sets ! (addr ! (through ! refl (stop !))) refl (tt, tt) $
    -- 4
    let H = triple_of 𝓛 h.signature (h.spec 𝓛 𝓜.mem 𝓡.returns) in
    let z : H.Ghost = ((κs, qs, tt, (m, (s, tt)), (v ∷ [], (shr_vals s, tt))), tt) in
    -- [the tokens; `buf` as a `&`; what says its last bytes; the length]
    nothing ! $ move ! (4 ∷ 2 ∷ 0 ∷ []) $ group ! 3 $ move ! (1 ∷ 0 ∷ []) $ join ! $
    use0 𝓛 (raw (fact 𝓤 (IfOk m (λ n. (n ≤ 64) × IsUtf8 (take n last)))))
    (fact_i 𝓤 _ (emp 𝓤) prefix) $ move ! (1 ∷ 0 ∷ []) $ use2 𝓛 (raw (H.pre z)) (id⊢ 𝓤 _) $
    calls_at ! calls H (h-met.met 𝓤 𝓛 𝓜 𝓡 (code.calls-humantime::duration::print::text_or_error 𝓡.env wired)) z
    (and_then ! (get ! refl) (and_then ! (get ! refl) (no_more !)))
    (λ w. returned ! tt h.ended (h.clauses 𝓛 𝓜.mem 𝓡.returns) z w (λ t ws' is'.
    hears ! (λ shown. heard ! _ (λ error.
    lands_as ! refl refl ((lts.r-1.laws M 𝓤 𝓛).typed κs t w is' []
    (lone (type_at h.signature.result κs).mir) (λ _. refl)) $
    -- 5
    -- [the result; nothing; the tokens; what says the last bytes]
    returns ! (look_at ! 0 refl) $ free_all ! refl $ keep ! (2 ∷ 0 ∷ 3 ∷ []) $
    suffices ! _ (ends_at 𝓛 f.ended stayed c y w t (tt, (tt, tt)) (tt, (tt, tt))) $
    nothing ! $ nothing ! $ fjoin ! $ nothing ! $ fjoin ! $ move ! (1 ∷ 0 ∷ 2 ∷ []) $ group ! 3 $
    frame ! $
    tells ! (answer_is_canonical x.now _ (grind (arith, shown, error, answer))) $
    tells ! (answer_is_fault x.now _ (grind (arith, shown, error, answer))) $
    tells ! (grind (arith, shown, error, answer)) $
    tells ! (grind (arith, shown, error, place)) $
    by ! (holds 𝓛 64 r last (λ last. OnErr t (last ≡ r.now)) (grind (arith, shown, error, same)))))))))))))))
