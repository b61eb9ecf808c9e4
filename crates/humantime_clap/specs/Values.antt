-- What the functions return, by the string of an option and by what the parser may return for it.
use Rattle.std.specs.Prelude.{◌≡◌, ◌⊎◌, ℕ, Err, IsErrAnd, IsSomeAnd, List, MatchResult, None, Ok}
use Rattle.std.specs.Prelude.{OnOk, Option, Result, Some}
use Rattle.std.specs.Borrow.{Bor}
use Rattle.std.specs.Fn.{FnOnceReturnsAt, Once}
use Rattle.clap.specs.Words.{BuildsOrBreaks, first_value, found_of, kind_of}
use Rattle.clap.specs.declared.builder.command.Command.{Command}
use Rattle.clap.specs.declared.error.Error.{Error}
use Rattle.clap.specs.declared.error.kind.ErrorKind.TheVariants.{MissingRequiredArgument}
use Rattle.clap.specs.declared.error.kind.ErrorKind.TheVariants.{OutOfMemory, ValueValidation}
use Rattle.clap.specs.declared.parser.matches.ArgMatches.{ArgMatches}

-- The string of an option: its first value on the command line, or else its default, if any.
abbrev pub string_of : ArgMatches → List ℕ → Option (List ℕ)
string_of matches id = first_value (found_of matches) id

-- The calls of a parser of the type F, which returns a T, or rejects a string for a reason of the
-- type Why.
abbrev pub Calls : Type 0 → Type 0 → Type 0 → Type 1
Calls F T Why = Once F (Bor (List ℕ) × Unit {0}) (Result T Why)

-- The error says that the parser rejects the string, or that an allocation fails.
abbrev pub IsParsingError : {F T Why : Type 0} → Calls F T Why → F → List ℕ → Error → Type 0
IsParsingError {F} {T} {Why} calls parse text error = (kind_of error ≡ OutOfMemory)
    ⊎ ((kind_of error ≡ ValueValidation)
    × ((why : Why) × FnOnceReturnsAt calls parse text (Err why)))

-- What `value_of` returns: an error if there is no string, or else what the parser makes of it.
abbrev pub IsValue : {F T Why : Type 0} → Calls F T Why → F → Option (List ℕ) → Result T Error
    → Type 0
IsValue calls parse None result = IsErrAnd result (λ error.
    (kind_of error ≡ OutOfMemory) ⊎ (kind_of error ≡ MissingRequiredArgument))
IsValue calls parse (Some text) result = MatchResult result
    (λ value. FnOnceReturnsAt calls parse text (Ok value)) (IsParsingError calls parse text)

-- What `optional_value_of` returns: `Ok(None)` if there is no string, or else the same in a `Some`.
abbrev pub IsOptionalValue : {F T Why : Type 0} → Calls F T Why → F → Option (List ℕ)
    → Result (Option T) Error → Type 0
IsOptionalValue calls parse None result = result ≡ Ok None
IsOptionalValue calls parse (Some text) result = MatchResult result
    (λ found. IsSomeAnd found (λ value. FnOnceReturnsAt calls parse text (Ok value)))
    (IsParsingError calls parse text)

-- An `Ok` leaves the command as it was, and an `Err` leaves it as it was, built or broken.
abbrev pub LeavesCommand : {T : Type 0} → Command → Command → Result T Error → Type 0
LeavesCommand old new result = OnOk result (new ≡ old) × BuildsOrBreaks old new
