-- A text has at most as many columns as its characters alone, each of at least one.
use Rattle.std.specs.Prelude.{◌==◌, ◌+◌, ◌<◌, ◌≤◌, ◌&&◌, ℕ, Bool, List, [], ◌∷◌, Option, None, Some}
use Rattle.std.specs.Prelude.{false, if◌then◌else◌, max, sum_by, unwrap_or}
use Rattle.std.proofs.Common.{add_comm, arith}
use Rattle.std.proofs.lemmas.Bool.{and_parts, cond_both}
use Rattle.std.proofs.lemmas.Bool.Decides.{nat_tests}
use Rattle.std.proofs.lemmas.List.Sums.{sum_by-cons}
use Rattle.unicode_width.specs.declared.kind.Kind.{Kind}
use Rattle.unicode_width.specs.declared.kind.Kind.TheVariants.{Single}
use Rattle.unicode_width.specs.declared.state.After.{After}
use Rattle.unicode_width.specs.declared.state.After.TheVariants.{Alef, EvenIndicatorsZwj}
use Rattle.unicode_width.specs.declared.state.After.TheVariants.{IndicatorZwj, Nothing}
use Rattle.unicode_width.specs.declared.state.After.TheVariants.{OddIndicatorsZwj}
use Rattle.unicode_width.specs.declared.state.Change.{Change}
use Rattle.unicode_width.specs.declared.state.Change.TheVariants.{Same}
use Rattle.unicode_width.specs.declared.state.State.{State}
use Rattle.unicode_width.specs.Kind.{is_text_presentation_base, kind}
use Rattle.unicode_width.specs.Width.{Reading, alone, before_alef, changed, char_width, if_kept}
use Rattle.unicode_width.specs.Width.{in_context, is_kept, is_lam, is_quote, joins, of_kind}
use Rattle.unicode_width.specs.Width.{past_emoji, past_selectors, plain, read_before, step}
use Rattle.unicode_width.specs.Width.{str_width}

-- Returns the most columns that a character adds to a text.
abbrev pub widest : ℕ → ℕ
widest c = max (unwrap_or (char_width false c) 1) 1

-- Returns the columns that the next join can add beyond one.
abbrev pending : After → ℕ
pending EvenIndicatorsZwj = 2
pending _ = 0

-- Returns the columns that a text has at least, where the next join takes one away for two pending.
abbrev least : After → ℕ
least IndicatorZwj = 1
least OddIndicatorsZwj = 1
least _ = 0

-- Returns the column that a flag promises.
abbrev flag : Bool → ℕ
flag b = if b then 1 else 0

-- The columns of a reading, with those that the next character can add beyond its own, are within
-- a bound.
record IsWithin (bound : ℕ) (r : Reading) : Type 0 where
  fits : r.0 + pending r.1.after + flag r.1.emoji + flag r.1.quote ≤ bound
  covers : least r.1.after ≤ r.0

-- A character that joins nothing is within its own columns, by its kind.
of_kind_within : (c : ℕ) (k : Kind) → IsWithin (max (of_kind false c k).0 1) (of_kind false c k)
of_kind_within c Single = grind (arith, nat_tests)
of_kind_within c _ = grind arith

-- A character that joins nothing is within its own columns.
alone_within : (c : ℕ) → 0xA0 < c → IsWithin (widest c) (alone false c)
unfolding alone char_width
alone_within c high = grind (arith, nat_tests, of_kind_within c (kind c))

-- A join adds at most one column and those pending, and leaves the least that the next one needs.
abbrev IsPaid : ℕ → After → Option (Change × After) → Type 0
IsPaid total after None = Unit {0}
IsPaid total after (Some j) =
    (changed total j.0 + pending j.1 ≤ total + pending after + 1) × (least j.1 ≤ changed total j.0)

-- A join before an alef is paid.
alef_paid : (total : ℕ) (lam mark : Bool) → IsPaid total Alef
    (if lam then Some (Same, Nothing) else if mark then Some (Same, Alef) else None)
alef_paid total lam mark = grind arith

-- A join is paid in every state.
joins_paid : (total : ℕ) (after : After) (c : ℕ) → least after ≤ total
    → IsPaid total after (joins false after c)
unfolding joins before_alef
joins_paid total Alef c covers = alef_paid total (is_lam c) _
joins_paid total _ c covers = grind arith

-- A character adds at most its own columns where no variation selector applies.
past_selectors_within : (bound c total : ℕ) (after : After) → 0xA0 < c
    → total + pending after ≤ bound → least after ≤ total
    → IsWithin (bound + widest c) (past_selectors false c total after)
unfolding past_selectors
past_selectors_within bound c total after high fits covers =
    grind (arith, alone_within c high, joins_paid total after c covers)

-- What a variation selector keeps of a state is within the same bound.
kept_within : (bound total : ℕ) (s : State) → IsWithin bound (total, s)
    → IsWithin bound (total, if_kept s)
kept_within bound total s within =
    let P = λ (k : State). IsWithin bound (total, k) in
    cond_both (is_kept s.after) s plain P (λ _. within) (λ _. grind arith)

-- A character above U+00A0 adds at most its own columns.
in_context_within : (bound c total : ℕ) (s : State) → 0xA0 < c → IsWithin bound (total, s)
    → IsWithin (bound + widest c) (in_context false c total s)
unfolding in_context
in_context_within bound c total s high within =
    let P = IsWithin (bound + widest c) in
    let kept = kept_within bound total s within in
    let fits : total + pending s.after ≤ bound = omega (arith, within.fits) in
    let both = and_parts s.quote (is_quote c) in
    cond_both (c == 0xFE0F) _ _ P (λ _. grind arith)
    (λ _. cond_both (c == 0xFE01) _ _ P (λ _. grind arith)
    (λ _. cond_both (c == 0xFE0E) _ _ P (λ _. grind arith)
    (λ _. cond_both (s.text && is_text_presentation_base c) _ _ P (λ _. grind arith)
    (λ _. cond_both (s.quote && is_quote c) _ _ P (λ quoted. grind (arith, both quoted))
    (λ _. past_selectors_within bound c total s.after high fits within.covers)))))

-- So does any character to which U+FE0F does not apply.
past_emoji_within : (bound c total : ℕ) (s : State) → IsWithin bound (total, s)
    → IsWithin (bound + widest c) (past_emoji false c total s)
unfolding past_emoji
past_emoji_within bound c total s within =
    grind (arith, nat_tests, alone_within c, in_context_within bound c total s)

-- So does any character.
step_within : (bound c : ℕ) (r : Reading) → IsWithin bound r
    → IsWithin (bound + widest c) (step false c r)
unfolding step
step_within bound c r within = grind (arith, nat_tests, past_emoji_within bound c r.0)

-- A reading is within the columns that its characters add.
read_within : (cs : List ℕ) → IsWithin (sum_by widest cs) (read_before false cs (0, plain))
read_within [] = record { fits = omega arith; covers = omega arith }
read_within (c ∷ cs) =
    let rest = read_before false cs (0, plain) in
    rw (sum_by-cons, add_comm) (step_within (sum_by widest cs) c rest (read_within cs))

-- A text has at most as many columns as its characters add.
pub str_width_within : (cs : List ℕ) → str_width false cs ≤ sum_by widest cs
unfolding str_width
str_width_within cs = omega (arith, (read_within cs).fits)
