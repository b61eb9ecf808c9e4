-- Lemmas on lists and maps that are written and read in turn.
use Rattle.std.proofs.Common.{◌≡◌, ℕ, suc, List, [], ◌∷◌, ◌++◌, Some, String, length, refl, sym, subst, ap, string_cmp}
use Rattle.std.proofs.lemmas.Cmp.{eq_by_cmp_equiv}
use Rattle.std.specs.List.{AllZip}
use Rattle.std.specs.Ordering.{eq_by_cmp}
use Rattle.std.proofs.lemmas.Map.Keys.{IsDistinct-from_sorted}
use Rattle.std.proofs.lemmas.Map.Made.{update_all_none}
use Rattle.std.specs.BTreeMap.{BTreeMap, IsFromIterResult, IsOrdered, keys}
use Rattle.std.specs.String.{string_cmp_total}
use Rattle.serde.specs.Event.{Log, Logs, Sends, WritesEach, WritesEntry, WritesSeq, map_begins, map_ends, seq_begins, text}
use Rattle.humantime_settings.specs.Texts.{AreEntries, AreTexts, Form, InTurn, IsEntry, IsMapFrom, Writes, entries, texts}

-- Something that has both relations to x is written.
abbrev pub WritesAs : {A B : Type 0} → (A → B → Type 0) → (A → B → Type 0)
    → (B → Log → Log → Type 0) → A → Log → Log → Type 0
WritesAs {A} {B} P Q w x old new = (y : B) × P x y × Q x y × w y old new

abbrev pub WritesText : {A : Type 0} → (A → List ℕ → Type 0) → (A → List ℕ → Type 0) → A → Log → Log
    → Type 0
WritesText P Q = WritesAs P Q (λ t. Sends (text t))

abbrev pub WritesPair : {A T : Type 0} → (T → List ℕ → Type 0) → (T → List ℕ → Type 0)
    → String A × T → Log → Log → Type 0
WritesPair P Q =
    WritesAs (IsEntry P) (IsEntry Q) (WritesEntry (λ t. Sends (text t)) (λ t. Sends (text t)))

-- Something that has this relation to x is read.
abbrev pub ReadsAs : {A B S : Type 0} → (A → B → Type 0) → (B → S → S → Type 0) → A → S → S → Type 0
ReadsAs {A} {B} P r x old new = (y : B) × P x y × r y old new

all_written : {A B : Type 0} (P Q : A → B → Type 0) (w : B → Log → Log → Type 0) (xs : List A) (old new : Log)
    → WritesEach (WritesAs P Q w) xs old new
    → (ys : List B) × AllZip P xs ys × AllZip Q xs ys × WritesEach w ys old new
    × (length ys ≡ length xs)
all_written P Q w [] old new h = ([], tt, tt, h, refl)
all_written P Q w (x ∷ xs) old new h =
    let rest = all_written P Q w xs h.0 new h.2 in
    (h.1.0 ∷ rest.0, (h.1.1, rest.1), (h.1.2, rest.2), (h.0, h.1.3, rest.3), ap suc rest.4)

pub list_written : {A : Type 0} (P Q : A → List ℕ → Type 0) (xs : List A) (old new : Log)
    → WritesSeq (WritesText P Q) xs old new
    → (form : Form) × AreTexts P xs form × AreTexts Q xs form × Writes form old new
list_written P Q xs old new h =
    let all = all_written P Q (λ t. Sends (text t)) xs h.0 h.1 h.3 in (
      texts all.0,
      (all.0, refl, all.1),
      (all.0, refl, all.2),
      (h.0, h.1, subst (λ n. Logs old h.0 (seq_begins (Some n))) (sym all.4) h.2, all.3, h.4),
    )

-- The entries of a map, inserted in turn, give the map.
all_inserted : {A T : Type 0} (m : BTreeMap (String A) T) → IsOrdered string_cmp m
    → IsFromIterResult string_cmp m.entries m
all_inserted m ordered =
    let distinct = IsDistinct-from_sorted string_cmp (keys m) ordered in (
      λ q.
          sym (update_all_none (eq_by_cmp_equiv string_cmp_total) (eq_by_cmp string_cmp) (λ x y. refl)
          m.entries q distinct),
      ordered,
    )

pub map_written : {A T : Type 0} (P Q : T → List ℕ
    → Type 0) (m : BTreeMap (String A) T) (old first last new : Log) → IsOrdered string_cmp m
    → Logs old first (map_begins (Some (length m.entries)))
    → WritesEach (WritesPair P Q) m.entries first last → Logs last new map_ends
    → (form : Form) × AreEntries P m.entries form × IsMapFrom Q m form × Writes form old new
map_written P Q m old first last new ordered begun each ended =
    let all =
    all_written (IsEntry P) (IsEntry Q)
    (WritesEntry (λ t. Sends (text t)) (λ t. Sends (text t))) m.entries first last each in (
      entries all.0,
      (all.0, refl, all.1),
      (m.entries, all_inserted m ordered, (all.0, refl, all.2)),
      (first, last, subst (λ n. Logs old first (map_begins (Some n))) (sym all.4) begun, all.3, ended),
    )

pub all_read : {A B S : Type 0} (P : A → B → Type 0) (r : B → S → S
    → Type 0) (xs : List A) (old new : S) → InTurn (ReadsAs P r) xs old new
    → (ys : List B) × AllZip P xs ys × InTurn r ys old new
all_read P r [] old new h = ([], tt, h)
all_read P r (x ∷ xs) old new h = let rest = all_read P r xs h.0 new h.2 in
    (h.1.0 ∷ rest.0, (h.1.1, rest.1), (h.0, h.1.2, rest.2))

pub one_more_in_turn : {A S : Type 0} (step : A → S → S
    → Type 0) (xs : List A) (x : A) (old mid new : S) → InTurn step xs old mid → step x mid new
    → InTurn step (xs ++ x ∷ []) old new
one_more_in_turn step [] x old mid new same last = (new, rw same at last, refl)
one_more_in_turn step (_ ∷ xs) x old mid new steps last =
    (steps.0, steps.1, one_more_in_turn step xs x steps.0 mid new steps.2 last)
