-- Steps of proofs about a buffer that a call is lent, and that comes back with the bytes that its
-- result leaves, once that is gone.
use Rattle.std.proofs.Common.{ℕ, List, [], ◌∷◌, MutBor}
use Rattle.std.specs.Borrow.{Array, u8}
use base.Fml.{Fml, fsep, ftrue, flft, fres}
use base.Fraction.{full_share}
use base.Logic.{ex_e, SProp, id⊢, emp, sep}
use contract.Lifetimes.{Lfts, Shares, toks}
use contract.Monad.{fact}
use denote.Follow.{such_by, follows_by}
use denote.RattleType.{RattleType}
use denote.Ref.{MutRef, mut_vals}
use denote.Steps.{heard}
use denote.Triple.Walked.{says}
use mir.Syntax.{named}
use seplogic.Ra.Ura.{Ura}
use types.Kit.{Goal, Item, Seq, Soaks, Step, step, show, ‵, raw, ◌⊛◌, some, later, ◌$◌, ◌∵◌, !, qed, done, move, use1, use2, use3, split, join, pick, await, group}
use types.Logic.{Logic, sem}
use types.Tokens.{lft_new, lft_end}
use denote.Lend.{lends_again, comes_back, LentAgain}
use Rattle.humantime.specs.Buffers.{BufferHolds}

-- What a call of two parameters is given: the tokens, and what the parameters own, of which the
-- second is a `&mut`.
abbrev Given : {M : Type 1} {𝓤 : Ura M} (𝓛 : Logic 𝓤) (R : RattleType) → Lfts 2 → Shares 2 → Fml
    → MutBor R.Denot → SProp 𝓤
Given {𝓤 = 𝓤} 𝓛 R κs qs x r =
    sep 𝓤 (sep 𝓤 (toks 𝓛 2 κs qs)
    (sem 𝓛 (fsep x (fsep ((MutRef (named 1) κs.1.0 R).own_val r (mut_vals r)) ftrue)))) (emp 𝓤)

module _ {M : Type 1} {𝓤 : Ura M} {𝓛 : Logic 𝓤} {K : Type 0} {Γ : List (Item 𝓤)} {G : Goal 𝓤 𝓛.H} where
  -- The `&mut` is lent to the call, for a lifetime α and under a name δ.
  pub lent : K → Soaks G
      → (R : RattleType) (κs : Lfts 2) (qs : Shares 2) (x : Fml) (r : MutBor R.Denot)
      → ((α δ : ℕ) → Seq K 𝓛 (raw (Given 𝓛 R (κs.0, (α ∷ [], tt)) (qs.0, (full_share, tt)) x
      (record r { ghost_name = δ }))
      ∷ ‵ (LentAgain R κs.1.0 (α ∷ []) qs.1.0 r.ghost_name r.ref_ptr.0 r.ref_ptr.1 δ r.now) ∷ Γ) G)
      → Seq K 𝓛 (raw (Given 𝓛 R κs qs x r) ∷ Γ) G
  lent t soaks R κs qs x r k =
      let κ = κs.1.0 in let q = qs.1.0 in let b = r.ref_ptr.0 in let o = r.ref_ptr.1 in
      let Ref : List ℕ → MutBor R.Denot → Fml =
      λ κ' r'. (MutRef (named 1) κ' R).own_val r' (mut_vals r) in
      use1 𝓛 (((‵ (flft κs.0 qs.0) ⊛ ‵ (flft κ q) ⊛ ‵ ftrue) ⊛ ‵ x ⊛ ‵ (Ref κ r) ⊛ ‵ ftrue) ⊛ ‵ ftrue) (id⊢ 𝓤 _) $
      split t $ split t $ split t $ move t (1 ∷ []) $ split t $ move t (3 ∷ []) $ split t $
      move t (1 ∷ []) $ split t $
      -- [the `&mut`; nothing; x; the token of κ; nothing; that of κ₀; nothing]
      lft_new t soaks (λ α. move t (1 ∷ 4 ∷ []) $
      use2 𝓛 (later (some (λ (δ : ℕ). ‵ (Ref (α ∷ []) (record r { ghost_name = δ })) ⊛ ‵ (LentAgain R κ (α ∷ []) q r.ghost_name b o δ r.now))))
      (lends_again 𝓛 R (named 1) κ (α ∷ []) q r.ghost_name b o (named 1) r.now) $ await t soaks $
      pick t (λ δ. split t $
      -- [the loan; what is kept; the token of α; nothing; x; nothing; that of κ₀; nothing]
      move t (6 ∷ 2 ∷ 3 ∷ []) $ group t 3 $ move t (3 ∷ 1 ∷ 4 ∷ []) $ group t 3 $
      move t (1 ∷ 0 ∷ []) $ join t $ move t (0 ∷ 2 ∷ []) $ join t $
      use1 𝓛 (raw (Given 𝓛 R (κs.0, (α ∷ [], tt)) (qs.0, (full_share, tt)) x
      (record r { ghost_name = δ }))) (id⊢ 𝓤 _) $
      k α δ))

  -- It comes back with its last value.
  pub back : K → Soaks G → (R : RattleType) (κs : Lfts 2) (qs : Shares 2) (r : MutBor R.Denot)
      {α δ : ℕ} (last : R.Denot)
      → Step K 𝓛 (raw (toks 𝓛 2 κs qs)
      ∷ ‵ ((MutRef (named 1) κs.1.0 R).own_val (record r { now = last }) (mut_vals r)) ∷ Γ) G
      (‵ (fres δ (R.coded.code last)) ∷ raw (toks 𝓛 2 (κs.0, (α ∷ [], tt)) (qs.0, (full_share, tt)))
      ∷ ‵ (LentAgain R κs.1.0 (α ∷ []) qs.1.0 r.ghost_name r.ref_ptr.0 r.ref_ptr.1 δ r.now) ∷ Γ) G
  back t soaks R κs qs r {α} {δ} last = step (λ s.
      let κ = κs.1.0 in let q = qs.1.0 in
      move t (1 ∷ []) $
      use1 𝓛 (‵ (flft κs.0 qs.0) ⊛ ‵ (flft (α ∷ []) full_share) ⊛ ‵ ftrue) (id⊢ 𝓤 _) $
      split t $ move t (1 ∷ []) $ split t $ lft_end t soaks $
      -- [α is over; nothing; the token of κ₀; what says the last value; what is kept]
      move t (0 ∷ 4 ∷ 3
      ∷ []) $
      use3 𝓛 (later (‵ ((MutRef (named 1) κ R).own_val (record r { now = last })
      (mut_vals r)) ⊛ ‵ (flft κ q)))
      (comes_back 𝓛 R (named 1) κ (α ∷ []) q r.ghost_name r.ref_ptr.0 r.ref_ptr.1 δ r.now last) $
      await t soaks $ split t $
      move t (3 ∷ 1 ∷ 2 ∷ []) $ group t 3 $ use1 𝓛 (raw (toks 𝓛 2 κs qs)) (id⊢ 𝓤 _) $ s)

  -- The last bytes of a buffer, of which `P` holds.
  pub last_held : K → (n : ℕ) (buf : MutBor (List ℕ)) (P : List ℕ → Type 0)
      → ((last : List ℕ) → P last → Seq K 𝓛
      (‵ (fres buf.ghost_name ((Array u8 n).coded.code last)) ∷ Γ)
      G) → Seq K 𝓛 (raw (sem 𝓛 (BufferHolds n buf P)) ∷ Γ) G
  unfolding such_by follows_by
  last_held t n buf P k =
      let Last : List ℕ → Fml = λ y. fres buf.ghost_name ((Array u8 n).coded.code y) in
      use1 𝓛 (some (λ (y : List ℕ). ‵ (Last y) ⊛ raw (fact 𝓤 (P y))))
      (ex_e 𝓤 _
      (λ s.
      qed 𝓛 (‵ (Last s.0.1) ∷ []) ∵ show ! (λ (y : List ℕ).
      sep 𝓤 (sem 𝓛 (Last y)) (fact 𝓤 (P y))) s.0.1 $ says ! s.2 $ done !)) $
      pick t (λ y. split t $ move t (1 ∷ []) $ heard t _ (λ p. k y p))
