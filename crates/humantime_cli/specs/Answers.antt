-- The output of the program for its arguments, and the bytes that it writes to standard output and
-- standard error.
use Rattle.std.specs.Prelude.{◌≡◌, ◌≢◌, ◌⊎◌, ℕ, List, [], ◌∷◌, ℤ, Option, Some, None, Result, Ok, Err, codes, chars, map}
use Rattle.std.specs.Prelude.{IfOk, IfErr}
use Rattle.std.specs.Borrow.{Bor}
use Rattle.std.specs.Io.KnownBytes.{Appends, Keeps}
use Rattle.humantime.specs.declared.date.error.TimestampError.{TimestampError}
use Rattle.humantime.specs.Prelude.{Fault, HasFault, CanonicalizesTo, fault_message, timestamp_message, IsWeakMoment, IsStrictMoment, weak_checks, strict_checks, first_failed, IsPrinted, places_of}
use Rattle.humantime_cli.specs.Writes.{AppendsFront, line}

-- The arguments after the program's name, as texts.
abbrev pub texts : List (Bor (List ℕ)) → List (List ℕ)
texts words = map (λ word. word.now) words

-- The commands are `duration`, `strict` and `weak`.
pub data Command : List ℕ → Type 0 where
  Duration : Command (codes "duration")
  Strict : Command (codes "strict")
  Weak : Command (codes "weak")

-- The output for a text: the printed text of a moment that the text denotes, with the default
-- number of digits, or the message of an error of the text.
abbrev pub IsMomentOutput : (ℤ → Type 0) → (TimestampError → Type 0) → Result (List ℕ) (List ℕ)
    → Type 0
IsMomentOutput Denotes Has (Ok printed) =
    (moment : ℤ) × Denotes moment × IsPrinted moment (places_of moment) printed
IsMomentOutput Denotes Has (Err message) =
    (error : TimestampError) × Has error × (message ≡ timestamp_message error)

-- The output of a command for a text: the printed result, or the message of the error.
abbrev pub IsOutputOf : {name : List ℕ} → Command name → List ℕ → Result (List ℕ) (List ℕ) → Type 0
IsOutputOf Duration text (Ok printed) = CanonicalizesTo text printed
IsOutputOf Duration text (Err message) =
    (fault : Fault) × HasFault (chars text) fault × (message ≡ fault_message fault)
IsOutputOf Strict text output = IsMomentOutput (IsStrictMoment text)
    (λ error. first_failed (strict_checks text) ≡ Some error) output
IsOutputOf Weak text output = IsMomentOutput (IsWeakMoment text)
    (λ error. first_failed (weak_checks text) ≡ Some error) output

-- An answer is the output of a command, or `None` for the usage line.
abbrev pub Answer : Type 0
Answer = Option (Result (List ℕ) (List ℕ))

-- The arguments have this answer: the output of a command for its text, or the usage line if they
-- are not a command and a text.
abbrev pub Answers : List (List ℕ) → Answer → Type 0
Answers words (Some output) =
    (name : List ℕ) × (command : Command name) × (text : List ℕ) × (words ≡ name ∷ text ∷ [])
    × IsOutputOf command text output
Answers words None = (name : List ℕ) → Command name → (text : List ℕ) → words ≢ name ∷ text ∷ []

-- The bytes written to standard output and standard error so far, where they are known.
pub record Streams : Type 0 where
  pub out : Option (List ℕ)
  pub err : Option (List ℕ)

-- The bytes of both writers.
abbrev pub streams : Option (List ℕ) → Option (List ℕ) → Streams
streams out err = record { out = out; err = err }

-- The status of an answer, 0 to 2, and its bytes for both streams.
abbrev pub outcome : Answer → ℕ × List ℕ × List ℕ
outcome (Some (Ok printed)) = (0, line printed, [])
outcome (Some (Err message)) = (1, [], line message)
outcome None = (2, [], line (codes "usage: humantime duration|strict|weak TEXT"))

-- The arguments have at most one answer.
pub record OneAnswer (words : List (List ℕ)) : Type 0 where
  pub same : (answer other : Answer) → Answers words answer → Answers words other
      → other ≡ answer

-- The streams received exactly the answer, and the status is that of the answer; or the status is
-- 3, one stream received a prefix of its bytes, not all of them, and the other received nothing.
pub data EndsWith (answer : Answer) (status : ℕ) (old new : Streams) : Type 0 where
  -- The streams received exactly the answer.
  Whole : status ≡ (outcome answer).0 → Appends old.out new.out (outcome answer).1
      → Appends old.err new.err (outcome answer).2
      → EndsWith answer status old new
  -- A write failed: one stream received a prefix of its bytes, not all of them, and the other
  -- received nothing.
  Cut : status ≡ 3
      → (AppendsFront old.out new.out (outcome answer).1 × Keeps old.err new.err)
      ⊎ (Keeps old.out new.out × AppendsFront old.err new.err (outcome answer).2)
      → EndsWith answer status old new

-- The arguments have an answer, and the program ends with it.
pub record Ends (words : List (List ℕ)) (status : ℕ) (old new : Streams) : Type 0 where
  pub answer : Answer
  pub answers : Answers words answer
  pub ends : EndsWith answer status old new

-- The program returned an error: either nothing was written, or it ended as `Ends` says and
-- standard output could not be flushed.
pub data Fails (words : List (List ℕ)) (old new : Streams) : Type 0 where
  -- Nothing was written.
  Unwritten : Keeps old.out new.out → Keeps old.err new.err → Fails words old new
  -- Standard output could not be flushed.
  Unflushed : (status : ℕ) → Ends words status old new → Fails words old new

-- What a run of the program returned: a status with which it ended, or an error.
pub record Runs {E : Type 0} (words : List (List ℕ)) (result : Result ℕ E) (old new : Streams)
    : Type 0 where
  pub ends : IfOk result (λ status. Ends words status old new)
  pub fails : IfErr result (λ _. Fails words old new)
