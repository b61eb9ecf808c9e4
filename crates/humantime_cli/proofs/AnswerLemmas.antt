-- Lemmas about the output for the results of the library, the uniqueness of the answer, and the end
-- of the program.
use Rattle.humantime.specs.DurationErrors.{fault_of, fault_message}
use Rattle.humantime.specs.DurationResults.{IsDurationAnswer, duration_text, canonical_answer}
use Rattle.humantime.specs.TimestampResults.{IsStrictAnswer, IsWeakAnswer, strict_answer, weak_answer, shortest_text}
use Rattle.humantime.specs.Timestamps.{IsPrintable, timestamp_message, places_of}
use Rattle.std.proofs.Common.{◌≡◌, ◌≢◌, ◌↔◌, ℕ, List, [], ◌∷◌, length, ap, sym, ◌∙◌, refl, arith, ℤ, None, Some, Result, Ok, Err, chars, codes, IsSome, IfOk, unwrap_or, if◌then◌else◌, ◌==◌, inl, inr, subst, Option}
use Rattle.std.specs.Result.{result_and, result_map_both, result_unwrap_or}
use Rattle.std.proofs.KnownBytes.{Appends-nil, Appends-kept, Keeps-refl, Keeps-trans}
use Rattle.std.specs.Io.KnownBytes.{Keeps}
use Rattle.humantime.specs.declared.date.error.TimestampError.{TimestampError}
use Rattle.humantime.specs.declared.duration.error.DurationError.{DurationError}
use Rattle.humantime.proofs.Theorems.{canonical_again, printed_is_canon, printed_some, one_stamp_outcome, printed_moment_reads, places_of_bound, strict_printable, weak_printable}
use Rattle.humantime_cli.specs.Answers.{Answer, Answers, OneAnswer, IsOutputOf, IsMomentOutput, Command, Duration, Strict, Weak, Streams, streams, Ends, EndsWith, Runs, Unflushed, Whole, Cut, outcome}
use Rattle.humantime_cli.specs.Writes.{Writes, line}

-- The text of the moment that was parsed, or the message of its error.
abbrev pub moment_written : Result ℤ TimestampError → Result (List ℕ) (List ℕ)
moment_written read = result_map_both (λ t. unwrap_or (shortest_text t) []) timestamp_message read

-- A moment that was parsed has a text.
pub has_text : {P : ℤ → Type 0} (read : Result ℤ TimestampError) → ((t : ℤ) → (read ≡ Ok t) ↔ P t)
    → ((t : ℤ) → P t → IsPrintable t) → IfOk read (λ t. IsSome (shortest_text t))
has_text (Ok t) value printable =
    rw (printed_some t (places_of t) (places_of_bound t) (printable t ((value t).0 refl))).1 refl
has_text (Err e) value printable = tt

pub tells_duration : {text : List ℕ} (read : Result ℕ DurationError) → IsDurationAnswer text read
    → IsOutputOf Duration text (result_map_both duration_text (λ e. fault_message (fault_of e)) read)
tells_duration (Ok d) is =
    record { duration = d; accepted = (is.value d).0 refl; canon = printed_is_canon d }
tells_duration (Err e) is = (fault_of e, (is.fault (fault_of e)).0 refl, refl)

pub tells_moment : {Denotes : ℤ → Type 0} {Has : TimestampError
    → Type 0} (read : Result ℤ TimestampError) → ((t : ℤ) → (read ≡ Ok t) ↔ Denotes t)
    → ((e : TimestampError) → (read ≡ Err e) ↔ Has e) → ((t : ℤ) → Denotes t → IsPrintable t)
    → IsMomentOutput Denotes Has (moment_written read)
tells_moment (Ok t) value error printable =
    let denoted = (value t).0 refl in
    (t, denoted, grind (arith, (printed_some t (places_of t) (places_of_bound t) (printable t denoted))))
tells_moment (Err e) value error printable = (e, (error e).0 refl, refl)

-- Arguments that are not two are not a command and its text.
pub not_two : (words : List (List ℕ)) → length words ≢ 2 → Answers words None
not_two words other name command text same = other (ap length same)

-- Neither are two arguments whose first is not the name of a command.
pub unnamed : (name : List ℕ) {text : List ℕ} → name ≢ codes "duration" → name ≢ codes "strict"
    → name ≢ codes "weak" → Answers (name ∷ text ∷ []) None
unnamed name duration strict weak other command text same = grind (arith, command)

-- The output for a moment or an error that these results imply.
one_moment : {P : ℤ → Type 0} {F : TimestampError
    → Type 0} (read : Result ℤ TimestampError) (told : Result (List ℕ) (List ℕ))
    → ((t : ℤ) → P t → (read ≡ Ok t) × IsPrintable t) → ((e : TimestampError) → F e → read ≡ Err e)
    → IsMomentOutput P F told → told ≡ moment_written read
one_moment read (Ok printed) value error (t, is, whole) =
    grind (arith, (value t is), (((printed_moment_reads t (places_of t) (places_of_bound t)).displayed printed).1 ((value t is).1, whole)))
one_moment read (Err message) value error (e, is, same) = grind (arith, (error e is))

-- The answer to arguments, by the first byte of the command.
abbrev words_answer : List (List ℕ) → Result (List ℕ) (List ℕ)
words_answer ((b ∷ name) ∷ text ∷ words) =
    if b == 100 then result_map_both (λ t. t) fault_message (canonical_answer (chars text))
    else (if b == 115 then moment_written (strict_answer text) else moment_written (weak_answer text))
words_answer words = Err []

one_command_answer : {name : List ℕ} (command : Command name) (text : List ℕ) (told : Result
    (List ℕ) (List ℕ)) → IsOutputOf command text told → told ≡ words_answer (name ∷ text ∷ [])
one_command_answer Duration text (Ok printed) is =
    grind (arith, (((canonical_again text).text printed).1 is))
one_command_answer Duration text (Err message) (fault, has, same) =
    grind (arith, (((canonical_again text).fault fault).1 has))
one_command_answer Strict text told tells =
    let one = (one_stamp_outcome text).1 in
    one_moment (strict_answer text) told (λ t is. ((one.value t).1 is, strict_printable text t is))
    (λ e. (one.error e).1) tells
one_command_answer Weak text told tells =
    let one = (one_stamp_outcome text).0 in
    one_moment (weak_answer text) told (λ t is. ((one.value t).1 is, weak_printable text t is))
    (λ e. (one.error e).1) tells

answer_of_words : (words : List (List ℕ)) (told : Result (List ℕ) (List ℕ))
    → Answers words (Some told) → told ≡ words_answer words
answer_of_words words told (name, command, text, same, tells) =
    one_command_answer command text told tells ∙ ap words_answer (sym same)

same_answer : (words : List (List ℕ)) (answer other : Answer) → Answers words answer
    → Answers words other → other ≡ answer
same_answer words (Some told) (Some other) answers also =
    ap Some (answer_of_words words other also ∙ sym (answer_of_words words told answers))
same_answer words (Some told) None (name, command, text, same, tells) none =
    absurd (none name command text same)
same_answer words None (Some told) none (name, command, text, same, tells) =
    absurd (none name command text same)
same_answer words None None none also = refl

pub one_answer : (words : List (List ℕ)) → OneAnswer words
one_answer words = record { same = same_answer words }

-- ==== The end of the program, by what one write accepted.

-- The line was written to standard output.
pub to_out : {T E : Type 0} (written : Result T E) {ended : Result ℕ E} {text : List ℕ}
    {old new : Option (List ℕ)} (err : Option (List ℕ))
    → Writes written old new (line text)
    → ended ≡ result_and written (Ok 0)
    → EndsWith (Some (Ok text)) (result_unwrap_or ended 3) (streams old err) (streams new err)
unfolding Writes
to_out (Ok _) err wrote and = rw and (Whole refl wrote (Appends-nil err))
to_out (Err e) err wrote and = rw and (Cut refl (inl (wrote, Keeps-refl err)))

-- The line was written to standard error.
pub to_err : {T E : Type 0} (written : Result T E) (answer : Answer) {ended : Result ℕ E}
    (out : Option (List ℕ)) {old new : Option (List ℕ)}
    → (outcome answer).1 ≡ []
    → Writes written old new (outcome answer).2 → ended ≡ result_and written (Ok (outcome answer).0)
    → EndsWith answer (result_unwrap_or ended 3) (streams out old) (streams out new)
unfolding Writes
to_err (Ok _) answer out none wrote and = rw and (Whole refl (rw none (Appends-nil out)) wrote)
to_err (Err e) answer out none wrote and = rw and (Cut refl (inr (Keeps-refl out, wrote)))

-- Flushing standard output keeps what was written.
pub flushed : {answer : Answer} {status : ℕ} {old mid : Streams} {new : Option (List ℕ)}
    → EndsWith answer status old mid → Keeps mid.out new
    → EndsWith answer status old (streams new mid.err)
flushed (Whole same taken told) kept = Whole same (Appends-kept _ _ _ _ taken kept) told
flushed (Cut three (inl ((n, before, taken), same))) kept =
    Cut three (inl ((n, before, Appends-kept _ _ _ _ taken kept), same))
flushed (Cut three (inr (same, front))) kept = Cut three (inr (Keeps-trans _ _ _ same kept, front))

-- The program ended, and then standard output was flushed, or could not be.
pub flush_ends : {E : Type 0} (r : Result ℕ E) (given words : List (List ℕ)) (status : ℕ)
    (old_out out new_out : Option (List ℕ)) (old_err err : Option (List ℕ))
    → Ends given status (streams old_out old_err) (streams out err) → Keeps out new_out
    → IfOk r (λ s. s ≡ status) → given ≡ words
    → Runs words r (streams old_out old_err) (streams new_out err)
flush_ends (Err e) given words status old_out out new_out old_err err is kept failed same = record {
  ends = tt;
  fails = Unflushed status (record {
    answer = is.answer;
    answers = subst (λ w. Answers w is.answer) same is.answers;
    ends = flushed is.ends kept;
  });
}
flush_ends (Ok s) given words status old_out out new_out old_err err is kept one same = record {
  ends = record {
    answer = is.answer;
    answers = subst (λ w. Answers w is.answer) same is.answers;
    ends = rw one (flushed is.ends kept);
  };
  fails = tt;
}

-- ==== The end of the program, by what a command read.

ends_in : {status : ℕ} {old new : Streams} {name : List ℕ} (command : Command name) (text : List ℕ)
    (output : Result (List ℕ) (List ℕ)) → IsOutputOf command text output
    → EndsWith (Some output) status old new
    → Ends (name ∷ text ∷ []) status old new
ends_in {name = name} command text output tells ends =
    record { answer = Some output; answers = (name, command, text, refl, tells); ends = ends }

pub duration_ends : (text : List ℕ) (read : Result ℕ DurationError) {status : ℕ} {old new : Streams}
    → IsDurationAnswer text read
    → EndsWith (Some (result_map_both duration_text (λ e. fault_message (fault_of e)) read)) status old new
    → Ends (codes "duration" ∷ text ∷ []) status old new
duration_ends text read is ends = ends_in Duration text _ (tells_duration read is) ends

pub strict_ends : (text : List ℕ) (read : Result ℤ TimestampError) {status : ℕ} {old new : Streams}
    → IsStrictAnswer text read
    → EndsWith (Some (moment_written read)) status old new
    → Ends (codes "strict" ∷ text ∷ []) status old new
strict_ends text read is ends =
    ends_in Strict text _ (tells_moment read is.value is.error (strict_printable text)) ends

pub weak_ends : (text : List ℕ) (read : Result ℤ TimestampError) {status : ℕ} {old new : Streams}
    → IsWeakAnswer text read
    → EndsWith (Some (moment_written read)) status old new
    → Ends (codes "weak" ∷ text ∷ []) status old new
weak_ends text read is ends =
    ends_in Weak text _ (tells_moment read is.value is.error (weak_printable text)) ends

-- A moment that was read has a text.
pub strict_has_text : (text : List ℕ) (read : Result ℤ TimestampError) → IsStrictAnswer text read
    → IfOk read (λ t. IsSome (shortest_text t))
strict_has_text text read is = has_text read is.value (strict_printable text)

pub weak_has_text : (text : List ℕ) (read : Result ℤ TimestampError) → IsWeakAnswer text read
    → IfOk read (λ t. IsSome (shortest_text t))
weak_has_text text read is = has_text read is.value (weak_printable text)

-- The usage line was written.
pub usage_ends : {T E : Type 0} (words : List (List ℕ)) (written : Result T E) {ended : Result ℕ E}
    (out : Option (List ℕ)) {old new : Option (List ℕ)} → Answers words None
    → Writes written old new (outcome None).2
    → ended ≡ result_and written (Ok 2)
    → Ends words (result_unwrap_or ended 3) (streams out old) (streams out new)
usage_ends words written out none wrote and =
    record { answer = None; answers = none; ends = to_err written None out refl wrote and }
