-- Printable ASCII has one column a byte, and no tab.
use Rattle.std.proofs.Common.{◌≡◌, ◌<◌, ◌++◌, ◌∙◌, ℕ, Bool, true, false, List, All, IsAscii, ap, arith, length, replicate}
use Rattle.std.proofs.lemmas.Bool.Decides.{nat_tests}
use Rattle.std.proofs.lemmas.List.Folds.{list_all-append}
use Rattle.std.proofs.lemmas.Str.{chars-IsAscii}
use Rattle.std.specs.Int.{is_in_range}
use Rattle.std.specs.List.{list_all}
use Rattle.std.proofs.lemmas.List.Elements.{All-replicate, All-weaker}
use Rattle.std.proofs.lemmas.List.Sums.{AllPass-from_list_all, list_all-from_AllPass}
use Rattle.std.proofs.lemmas.Str.Ascii.{IsAscii-from_all}
use Rattle.unicode_width.specs.Width.{str_width}
use Rattle.unicode_width.proofs.Rules.{str_width-printable}
use Rattle.humantime_lines.specs.Carets.{columns, is_tab}

-- Tests whether a byte is printable ASCII.
abbrev pub is_printable : ℕ → Bool
is_printable b = is_in_range 0x20 0x7E b

-- Each byte of a text is printable ASCII.
abbrev pub IsPrintable : List ℕ → Type 0
IsPrintable bs = list_all is_printable bs ≡ true

-- A printable text after another is printable.
pub printable_append : (xs ys : List ℕ) → IsPrintable xs → IsPrintable ys → IsPrintable (xs ++ ys)
printable_append xs ys first second = rw (list_all-append is_printable xs ys, first) second

-- A printable byte may be repeated.
pub printable_replicate : (n b : ℕ) → is_printable b ≡ true → IsPrintable (replicate n b)
printable_replicate n b pass =
    let each = All-replicate (λ b. is_printable b ≡ true) n b pass in
    list_all-from_AllPass is_printable (replicate n b) each

-- What holds of every printable byte holds of each byte of a printable text.
pub each_printable : (P : ℕ → Type 0) → ((b : ℕ) → is_printable b ≡ true → P b)
    → (bs : List ℕ) → IsPrintable bs → All P bs
each_printable P holds bs pass =
    let each = AllPass-from_list_all is_printable bs pass in
    All-weaker (λ b. is_printable b ≡ true) P holds bs each

-- A printable text is ASCII.
pub IsAscii-printable : (bs : List ℕ) → IsPrintable bs → IsAscii bs
IsAscii-printable bs pass =
    IsAscii-from_all bs (each_printable (λ b. b < 128) (λ b h. grind (arith, nat_tests)) bs pass)

-- No byte is a tab.
abbrev pub HasNoTab : List ℕ → Type 0
HasNoTab = All (λ b. is_tab b ≡ false)

-- A printable text has no tab.
pub printable_no_tab : (bs : List ℕ) → IsPrintable bs → HasNoTab bs
printable_no_tab = each_printable (λ b. is_tab b ≡ false) (λ b h. grind (arith, nat_tests))

-- A printable text has one column for each byte.
pub columns_of_printable : (bs : List ℕ) → IsPrintable bs → columns bs ≡ length bs
columns_of_printable bs pass =
    ap (str_width false) (chars-IsAscii bs (IsAscii-printable bs pass))
    ∙ str_width-printable false bs pass
