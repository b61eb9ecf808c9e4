-- Steps that proofs by hand have in common: of calls, of clauses, and of a buffer that a result may
-- borrow from.
use Rattle.std.proofs.Common.{ℕ, List, [], ◌∷◌, refl, sym, w8, MutBor}
use Rattle.std.specs.Borrow.{Array, u8}
use base.Fml.{fdead, fupd, fwand, fseps, Fml, fsep, ftrue, flft, fres, fbor, fauth}
use base.Fraction.{full_share}
use base.Logic.{ex_i, upd_i, SProp, id⊢, emp, ent, sep}
use borrow.Table.Copies.{Shares-copy, c_arr, c_rf}
use borrow.Table.Referent.{f_int}
use contract.Lifetimes.{Lfts, Shares, toks}
use contract.Monad.{fact, fact_i}
use denote.Follow.{such_by, follows_by}
use denote.Laws.{Is, shows}
use denote.Memory.{hidden_shr, mem, part_at}
use denote.Ref.{ShrRef, mut_vals}
use denote.Signature.{type_at}
use denote.Steps.{heard, peeks}
use denote.Triple.Clauses.{Clauses, Ended, Lasts, at_exit, closing, lasts}
use denote.Triple.Entry.{Res, alive}
use denote.Triple.Spec.{triple_of}
use mir.Syntax.{named}
use mir.Val.{Val}
use seplogic.Ra.Ura.{Ura}
use types.Kit.{Goal, Item, Seq, Soaks, Step, step, assume, fpack, fpick, ‵, raw, ◌⊛◌, some, later, prop, ◌$◌, ◌∵◌, !, qed, done, move, keep, drop, use0, use1, use2, split, fsplit, fjoin, feq_i, pick, await, rewrite, suffices, frame, group}
use types.Logic.{Logic, sem}
use types.Tokens.{bor_open, obor_alter, res_agree}
use types.SemTy.{Body}
use mathlib.Core.Option.{none}
use Rattle.humantime.specs.Buffers.{BufferHolds}

-- If the last bytes of a buffer are known, it holds them.
pub holds : {M : Type 1} {𝓤 : Ura M} (𝓛 : Logic 𝓤) (n : ℕ) (buf : MutBor (List ℕ)) (last : List ℕ)
    (P : List ℕ → Type 0)
    → P last
    → ent 𝓤 (𝓛.A.res buf.ghost_name ((Array u8 n).coded.code last)) (sem 𝓛 (BufferHolds n buf P))
unfolding such_by follows_by
holds {𝓤 = 𝓤} 𝓛 n buf last P p =
    let code = (Array u8 n).coded.code in
    ex_i 𝓤
    (λ (s : (s : (List ℕ → List ℕ) × List ℕ) × (List ℕ → Unit {0}) × P s.1). sem 𝓛
    (follows_by (List ℕ) (List ℕ) code code buf.ghost_name none s.0.0 s.0.1))
    (((λ _. last), last), (λ _. tt), p)

module _ {M : Type 1} {𝓤 : Ura M} {𝓛 : Logic 𝓤} {K : Type 0} {Γ : List (Item 𝓤)} {G : Goal 𝓤 𝓛.H} where
  -- A call has returned: [what it ensures; its result; what it says of last values; the tokens].
  pub returned : K → Soaks G → (T : Ended) (c : Clauses 𝓤 T)
      (y : (triple_of 𝓛 T.signature (closing 𝓛 T c)).Ghost) (v : Val)
      → ((r : Res T.signature y.0.0) (ws : Lasts T y.0.0 y.0.3) → Is (type_at T.signature.result y.0.0) r (v ∷ [])
      → Seq K 𝓛 (raw ((c y.0.0 y.0.3).ensures y.1 r (at_exit T y.0.0 y.0.3 ws))
      ∷ ‵ ((type_at T.signature.result y.0.0).own_val r (v ∷ []))
      ∷ ‵ (lasts T y.0.0 y.0.3 ws) ∷ raw (alive 𝓛 T.signature y.0.0 y.0.1) ∷ Γ) G)
      → Seq K 𝓛 (raw ((triple_of 𝓛 T.signature (closing 𝓛 T c)).post y v) ∷ Γ) G
  returned t soaks T c y v k =
      let R = type_at T.signature.result y.0.0 in
      use1 𝓛 (later (some (λ (r : R.Denot). (raw (alive 𝓛 T.signature y.0.0 y.0.1) ⊛ ‵ (R.own_val r (v ∷ [])))
      ⊛ some
      (λ (ws : Lasts T y.0.0 y.0.3). ‵ (lasts T y.0.0 y.0.3 ws) ⊛ raw
      ((c y.0.0 y.0.3).ensures y.1 r (at_exit T y.0.0 y.0.3 ws))))))
      (id⊢ 𝓤 _) $
      await t soaks $ pick t (λ r. split t $ split t $ move t (1 ∷ []) $ peeks t R _ (shows 𝓛 R) r (v ∷ []) (λ is.
      move t (2 ∷ []) $ pick t (λ ws. split t $ move t (1 ∷ 2 ∷ 0 ∷ 3 ∷ []) $ k r ws is)))

  -- The first of several clauses is learned.
  pub hears : K → {φ : Type 0} {P : SProp 𝓤} → (φ → Seq K 𝓛 (raw P ∷ Γ) G)
      → Seq K 𝓛 (raw (sep 𝓤 (fact 𝓤 φ) P) ∷ Γ) G
  hears t {φ} {P} k = use1 𝓛 (raw (fact 𝓤 φ) ⊛ raw P) (id⊢ 𝓤 _) $ split t $ heard t φ k

  -- What a call has left of its second parameter, a buffer, is shared for the rest of its lifetime:
  -- [the tokens; the `&`; what says the last bytes].
  pub shares_last : K → Soaks G
      → (n : ℕ) (κs : Lfts 2) (qs : Shares 2) (r : MutBor (List ℕ)) (last : List ℕ)
      → Step K 𝓛
      (raw (toks 𝓛 2 κs qs) ∷ ‵ ((ShrRef (named 0) κs.1.0 (Array u8 n)).own_val
      (record { ref_ptr = r.ref_ptr; now = last }) (mut_vals r))
      ∷ ‵ (fres r.ghost_name ((Array u8 n).coded.code last)) ∷ Γ) G
      (‵ (fsep ftrue (fsep (fsep (fres r.ghost_name ((Array u8 n).coded.code last)) (fbor κs.1.0 (Body (mem (Array u8 n)) r.ref_ptr.0 r.ref_ptr.1 r.ghost_name))) ftrue))
      ∷ raw (toks 𝓛 2 κs qs) ∷ Γ) G
  unfolding fseps
  shares_last t soaks n κs qs r last = step (λ s.
      let R = Array u8 n in let κ = κs.1.0 in let q = qs.1.0 in let b = r.ref_ptr.0 in
      let o = r.ref_ptr.1 in
      let Value : List ℕ → Fml = λ x. part_at R full_share x b o in
      let Name : List ℕ → Fml = λ x. fauth r.ghost_name (R.coded.code x) in
      move t (1 ∷ []) $ use1 𝓛 (‵ (flft κs.0 qs.0) ⊛ ‵ (flft κ q) ⊛ ‵ ftrue) (id⊢ 𝓤 _) $ split t $
      move t (1 ∷ []) $ split t $
      move t (3 ∷ []) $ fsplit t $ drop t $ fsplit t $ fsplit t $
      -- [what says the last bytes; the borrow; nothing; the token of κ; nothing; that of κ₀]
      move t (1 ∷ 3 ∷ []) $ bor_open t soaks $ move t (1 ∷ []) $
      fpick t (λ z. fsplit t $ move t (3 ∷ 1 ∷ []) $ res_agree t R.coded (λ same.
      rewrite t 2 (λ x. ‵ (Value x)) (sym same) refl $
      rewrite t 1 (λ x. ‵ (Name x)) (sym same) refl $
      -- [what says the last bytes; their name; the bytes; the open borrow; nothing; nothing; the
      -- token of κ₀]
      move t (1 ∷ []) $ use1 𝓛 (‵ (fwand (fsep (fdead κ) (fseps (Value last ∷ [])))
      (fupd (Body (mem R) b o r.ghost_name))))
      (qed 𝓛 (‵ (Name last) ∷ []) ∵ assume ! (‵ (fsep (fdead κ) (fseps (Value last ∷ [])))) $
      fsplit ! $ drop ! $ fsplit ! $ suffices ! _ (upd_i 𝓤 _) $
      move ! (0 ∷ 2 ∷ []) $ fjoin ! $ fpack ! (List ℕ) (λ x. fsep (Value x) (Name x)) last $
      keep ! (0 ∷ []) $ done !) $
      -- [the way back to what was borrowed; what says the last bytes; the bytes; the open borrow;
      -- nothing; nothing; the token of κ₀]
      move t (2 ∷ 4 ∷ []) $ fjoin t $ move t (3 ∷ 0 ∷ 1 ∷ []) $
      obor_alter t soaks (Value last ∷ []) $
      use1 𝓛 (‵ (fbor κ (Value last)) ⊛ ‵ ftrue) (id⊢ 𝓤 _) $ split t $
      -- [the borrow of the bytes; nothing; the token of κ; what says the last bytes; nothing; that
      -- of κ₀]
      move t (0 ∷ 2 ∷ []) $ use2 𝓛 (later (‵ (hidden_shr R κ last b o) ⊛ ‵ (flft κ q)))
      (Shares-copy 𝓛 (c_arr u8 (c_rf (f_int w8)) n) κ last κ ((κ, q) ∷ []) b o (λ x m. m)
      (λ x m. m)) $ await t soaks $ split t $
      feq_i t (List Val) (mut_vals r) (mut_vals r) refl $ fjoin t $
      move t (5 ∷ 1 ∷ 2 ∷ []) $ group t 3 $ use1 𝓛 (raw (toks 𝓛 2 κs qs)) (id⊢ 𝓤 _) $
      move t (3 ∷ []) $ drop t $ s)))

-- The first of several clauses is shown.
pub tells : {M : Type 1} {𝓤 : Ura M} {𝓛 : Logic 𝓤} {K : Type 0} {Γ : List (Item 𝓤)} → K
    → {φ : Type 0} {P : SProp 𝓤} → φ → Step K 𝓛 Γ (prop P) Γ (prop (sep 𝓤 (fact 𝓤 φ) P))
tells {𝓤 = 𝓤} {𝓛 = 𝓛} t {φ} x =
    step (λ s. use0 𝓛 (raw (fact 𝓤 φ)) (fact_i 𝓤 φ (emp 𝓤) x) $ frame t $ s)
