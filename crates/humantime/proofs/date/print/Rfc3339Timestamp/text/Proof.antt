-- The contract of `text`, proved by hand.
--
-- The kit proves a clause `ensures*`, which here says that the buffer is unchanged if there is no
-- text, by itself only if the buffer is the first parameter and a struct or of a generic type. Here
-- it is the second one, and an array. So this proof walks through the compiled body, a call of
-- `write` and one of `text_if_any`, in the kit's separation logic. What is held at a point, such as
-- a reference, the token of a lifetime or a known fact, is a list. A comment in brackets shows it,
-- and `move` and `keep` choose from it by position.
--
--  1. The body is entered (`enter`). What it is given is what `write`, which has the same
--     parameters, requires.
--  2. `write` is called by its contract `G` (`calls_at`). `hears` names each fact that it ensures.
--  3. `buf` is shared for the rest of its lifetime (`shares_last`), so that the result may borrow
--     from it.
--  4. `text_if_any` is called by its contract `H`, whose requirement follows from what was heard.
--  5. The body returns (`returns`), and the clauses of `text` follow (`ends_at`): all but the last
--     as facts (`tells`), and the last by `holds`, from the last bytes of `buf`.
--
-- A change of the body, or of a clause of `write` or `text_if_any`, changes the steps above that
-- name it: `rt check` then stops at the first step that does not fit, and prints what is held
-- there, which is to be compared with the list in brackets before it. A new version of the kit may
-- rename or change what is imported from it, or hand over the resources in another order.
use Rattle.std.proofs.lemmas.Grind.{common_steps}
use Rattle.std.proofs.lemmas.Str.{IsUtf8-from_ascii}
use Rattle.std.proofs.Common.{IsUtf8, IfSome, IfNone, take, option_map, ◌≡◌, ℕ, ◌≤◌, List, [], ◌∷◌, refl, ◌∙◌, Bor, arith}
use Rattle.std.proofs.raw_atomic.Walks.{proved}
use Rattle.std.specs.Borrow.{Array, u8}
use base.Fml.{flft}
use base.Logic.{id⊢, emp}
use contract.Monad.{fact, fact_i}
use contract.Running.{tables}
use denote.Builtin.{RefOf}
use denote.Exit.{yes, no}
use denote.Memory.{lone}
use denote.Ref.{mut_vals, shr_vals, mut_Tells, shr_Tells}
use denote.Signature.{plain, type_at}
use denote.Steps.{nothing, heard}
use denote.Triple.Call.{calls_at}
use denote.Triple.Entry.{alive}
use denote.Triple.Spec.{triple_of}
use denote.Triple.Table.{framed}
use denote.Triple.Walked.{Stays, stay_dropped, Goes-dropped, Goes-spent_ref, ends_at}
use mir.Syntax.{named}
use types.ByLocal.{alloc_all, pass_all, free_all, look_at, get, through, sets, lands_as}
use types.Kit.{‵, raw, ◌⊛◌, ◌$◌, ◌∵◌, !, qed, by, move, keep, use0, use1, use2, split, join, fjoin, suffices, frame, group}
use types.Run.{enter, addr, stop, no_more, and_then, returns}
use Rattle.humantime.proofs.PrintedTimestamps.{printed_ascii, text_answered}
use Rattle.humantime.proofs.Theorems.{printed_read}
use Rattle.humantime.proofs.Buffers.{holds, returned, hears, shares_last, tells}
use Rattle.humantime.specs.contracts.date.print.Rfc3339Timestamp.{the_row as Self}
use Rattle.humantime.specs.contracts.date.print.Rfc3339Timestamp.text as f
use Rattle.humantime.proofs.date.print.Rfc3339Timestamp.text.Statement.{statement}
use Rattle.humantime.proofs.date.print.Rfc3339Timestamp.text.Code as code
use Rattle.humantime.proofs.date.print.Rfc3339Timestamp.text.Lts as lts
use Rattle.humantime.specs.contracts.date.print.Rfc3339Timestamp.write as g
use Rattle.humantime.proofs.date.print.Rfc3339Timestamp.write.Met as g-met
use Rattle.humantime.specs.contracts.date.print.text_if_any as h
use Rattle.humantime.proofs.date.print.text_if_any.Met as h-met

pub text_spec : {M : Type 1} → statement M
text_spec {M} 𝓤 𝓛 𝓜 𝓡 wired =
    let c = f.clauses 𝓛 𝓜.mem 𝓡.returns in
    let calls = framed 𝓤 𝓛.H 𝓜 (tables 𝓤 𝓛.H 𝓜 𝓡 𝓡.env) in
    let stayed : Stays f.ended.signature.params f.ended.kept =
    (stay_dropped _ yes, (stay_dropped _ no, tt)) in
    proved 𝓛 f.ended stayed c 𝓜 𝓡 (
      Goes-dropped 𝓛 2 (RefOf (0 ∷ []) tt (plain (λ _. Self)) (λ _. tt)) yes (λ κs x w. refl),
      (Goes-spent_ref 𝓛 2 (1 ∷ []) tt (plain (λ _. Array u8 30)), tt),
    )
    f.Key.name code.function (code.unfolded 𝓤 𝓛.H 𝓜 𝓡 wired)
    (λ κs. (shr_vals, (mut_vals, tt)))
    (λ κs. (shr_Tells (named 0) κs.0 Self, (mut_Tells (named 1) κs.1.0 (Array u8 30), tt)))
    (λ κs qs bounds a _ are.
    let x = a.0 in let r = a.1.0 in
    let G = triple_of 𝓛 g.signature (g.spec 𝓛 𝓜.mem 𝓡.returns) in
    let y : G.Ghost = ((κs, qs, bounds, a, (shr_vals x, (mut_vals r, tt))), tt) in
    -- 1
    qed 𝓛 (raw (G.pre y) ∷ []) ∵ enter ! _ _ _ _ _ $
    alloc_all ! (λ l. pass_all ! refl ((tt, tt), ((tt, tt), tt)) $
    sets ! (addr ! (through ! refl (stop !))) refl (tt, tt) $
    -- 2
    calls_at ! calls G (g-met.met 𝓤 𝓛 𝓜 𝓡 (code.calls-humantime::date::print::Rfc3339Timestamp::write 𝓡.env wired)) y
    (and_then ! (get ! refl) (and_then ! (get ! refl) (no_more !)))
    (λ v. returned ! tt g.ended (g.clauses 𝓛 𝓜.mem 𝓡.returns) y v (λ m ws is.
    hears ! (λ within. hears ! (λ fits. hears ! (λ text. heard ! _ (λ same.
    -- [the length; what is left of the parameters; the tokens]
    lands_as ! refl refl ((lts.r-0.laws M 𝓤 𝓛).typed κs m v is [] _ refl) $
    -- 3
    let last = ws.1.0 in
    let s : Bor (List ℕ) = record { ref_ptr = r.ref_ptr; now = last } in
    move ! (1 ∷ 2 ∷ []) $ shares_last ! tt 30 κs qs r last $
    sets ! (addr ! (through ! refl (stop !))) refl (tt, tt) $
    -- 4
    let H = triple_of 𝓛 h.signature (h.spec 𝓛 𝓜.mem 𝓡.returns) in
    let z : H.Ghost = ((κs.1, qs.1, tt, (s, (m, tt)), (shr_vals s, (v ∷ [], tt))), tt) in
    -- [the tokens; `buf` as a `&`; what says its last bytes; the length]
    use1 𝓛 (‵ (flft κs.0 qs.0) ⊛ raw (alive 𝓛 h.signature κs.1 qs.1)) (id⊢ 𝓤 _) $ split ! $
    nothing ! $ move ! (3 ∷ 5 ∷ 0 ∷ []) $ group ! 3 $ move ! (2 ∷ 0 ∷ []) $ join ! $
    use0 𝓛 (raw (fact 𝓤 (IfSome m (λ n. (n ≤ 30) × IsUtf8 (take n last)))))
    (fact_i 𝓤 _ (emp 𝓤)
    (grind (arith, common_steps, fits, text, printed_ascii, IsUtf8-from_ascii))) $
    move ! (1 ∷ 0 ∷ []) $ use2 𝓛 (raw (H.pre z)) (id⊢ 𝓤 _) $
    calls_at ! calls H (h-met.met 𝓤 𝓛 𝓜 𝓡 (code.calls-humantime::date::print::text_if_any 𝓡.env wired)) z
    (and_then ! (get ! refl) (and_then ! (get ! refl) (no_more !)))
    (λ w. returned ! tt h.ended (h.clauses 𝓛 𝓜.mem 𝓡.returns) z w (λ t ws' is'.
    heard ! _
    (λ shown.
    lands_as ! refl refl ((lts.r-1.laws M 𝓤 𝓛).typed κs.1 t w is' []
    (lone (type_at h.signature.result κs.1).mir) (λ _. refl)) $
    -- 5
    -- [the result; nothing; the token of κ; that of κ₀; what says the last bytes]
    returns ! (look_at ! 0 refl) $ free_all ! refl $ keep ! (3 ∷ 2 ∷ 0 ∷ 4 ∷ []) $ group ! 2 $
    suffices ! _ (ends_at 𝓛 f.ended stayed c y w t (tt, (tt, tt)) (tt, (tt, tt))) $
    nothing ! $ nothing ! $ fjoin ! $ nothing ! $ fjoin ! $ move ! (1 ∷ 0 ∷ 2 ∷ []) $ group ! 3 $
    frame ! $
    tells ! (grind (arith, common_steps, shown, within)) $
    tells ! (grind (arith, shown, text)) $
    tells ! (shown ∙ text_answered x.now (option_map (λ n. take n last) m)
    (grind (arith, common_steps, within)) (grind (arith, text))) $
    tells ! (grind (arith, shown, text, printed_read)) $
    by ! (holds 𝓛 30 r last (λ last. IfNone t (last ≡ r.now)) (grind (arith, shown, same))))))))))))))
