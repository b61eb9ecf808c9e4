-- The forms in which a document has a value. A text is its bytes.
use Rattle.std.specs.Prelude.{◌≡◌, ℕ, List, [], ◌∷◌, Option, None, Some, String, string_bytes, string_cmp}
use Rattle.std.specs.List.{AllZip}
use Rattle.std.specs.BTreeMap.{BTreeMap, IsFromIterResult}
use Rattle.serde.specs.Event.{Event, Log, Sends, WritesMap, WritesSeq, key_begins, map_begins, map_ends, nothing, seq_begins, seq_ends, text}
use Rattle.serde.specs.Steps.{Begins, Gives}
use Rattle.serde.specs.declared.deserializer.Deserializer.{Deserializer}

-- A text, no value, the texts of a list, or the keys and texts of a map.
pub data Form : Type 0 where
  one_text : List ℕ → Form
  no_value : Form
  texts : List (List ℕ) → Form
  entries : List (List ℕ × List ℕ) → Form

-- This is a text that has this relation to the value.
abbrev pub IsText : {T : Type 0} → (T → List ℕ → Type 0) → T → Form → Type 0
IsText relation value form = (t : List ℕ) × (form ≡ one_text t) × relation value t

-- This is such a text, or no value for `None`.
abbrev pub IsTextOrNothing : {T : Type 0} → (T → List ℕ → Type 0) → Option T → Form → Type 0
IsTextOrNothing relation None form = form ≡ no_value
IsTextOrNothing relation (Some value) form = IsText relation value form

-- These are such texts of all items.
abbrev pub AreTexts : {T : Type 0} → (T → List ℕ → Type 0) → List T → Form → Type 0
AreTexts relation items form = (ts : List (List ℕ)) × (form ≡ texts ts) × AllZip relation items ts

-- This is a key with such a text of its value.
abbrev pub IsEntry : {T A : Type 0} → (T → List ℕ → Type 0) → String A × T → List ℕ × List ℕ
    → Type 0
IsEntry relation pair entry = (entry.0 ≡ string_bytes pair.0) × relation pair.1 entry.1

-- These are the keys with such texts of all values.
abbrev pub AreEntries : {T A : Type 0} → (T → List ℕ → Type 0) → List (String A × T) → Form → Type 0
AreEntries relation pairs form =
    (es : List (List ℕ × List ℕ)) × (form ≡ entries es) × AllZip (IsEntry relation) pairs es

-- This is a map that has the keys and values of such entries inserted in turn.
abbrev pub IsMapFrom : {T A : Type 0} → (T → List ℕ → Type 0) → BTreeMap (String A) T → Form
    → Type 0
IsMapFrom {T} {A} relation map form = (pairs : List (String A × T))
    × IsFromIterResult string_cmp pairs map × AreEntries relation pairs form

-- This form is written.
abbrev pub Writes : Form → Log → Log → Type 0
Writes (one_text t) = Sends (text t)
Writes no_value = Sends nothing
Writes (texts ts) = WritesSeq (λ t. Sends (text t)) ts
Writes (entries es) = WritesMap (λ t. Sends (text t)) (λ t. Sends (text t)) es

-- A form that has both relations is written.
abbrev pub WritesOne : (Form → Type 0) → (Form → Type 0) → Log → Log → Type 0
WritesOne IsWritten IsRead old new =
    (form : Form) × IsWritten form × IsRead form × Writes form old new

-- Each of these takes a step.
abbrev pub InTurn : {A S : Type 0} → (A → S → S → Type 0) → List A → S → S → Type 0
InTurn step [] old new = new ≡ old
InTurn {A} {S} step (x ∷ xs) old new = (mid : S) × step x old mid × InTurn step xs mid new

-- This key is read, and then this text of its value.
abbrev pub ReadsEntry : {F E M : Type 0} → (F → List ℕ → Event → F → Type 0) → List ℕ × List ℕ
    → Deserializer F E M → Deserializer F E M
    → Type 0
ReadsEntry {F} {E} {M} gives entry old new =
    (opened keyed : Deserializer F E M) × Gives gives old key_begins opened
    × Gives gives opened (text entry.0) keyed × Gives gives keyed (text entry.1) new

-- This form is read.
abbrev pub Reads : {F E M : Type 0} → (F → List ℕ → Event → F → Type 0) → (F → F → Type 0) → Form
    → Deserializer F E M
    → Deserializer F E M → Type 0
Reads gives stays (one_text t) old new = Begins gives stays old (text t) new
Reads gives stays no_value old new = Gives gives old nothing new
Reads {F} {E} {M} gives stays (texts ts) old new =
    (first last : Deserializer F E M) × Gives gives old (seq_begins None) first
    × InTurn (λ t before after. Begins gives stays before (text t) after) ts first last
    × Gives gives last seq_ends new
Reads {F} {E} {M} gives stays (entries es) old new =
    (first last : Deserializer F E M) × Gives gives old (map_begins None) first
    × InTurn (ReadsEntry gives) es first last × Gives gives last map_ends new
