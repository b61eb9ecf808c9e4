-- What a caller of `run` can conclude for known arguments, if the bytes of both writers are known.
-- The callers in `src/command/callers.rt` cite these facts. Each of them fails to prove if a
-- definition or a clause of `run` is weakened.
use Rattle.std.proofs.Common.{arith, ◌≡◌, ◌≢◌, ◌<◌, ℕ, ◌*◌, List, [], ◌∷◌, ◌++◌, length, take, subst, inl, inr, refl, ◌∙◌, append-nil, ℤ, pos, Some, None, Result, Ok, Err, chars, codes}
use Rattle.humantime.specs.DurationErrors.{Fault, HasFault, InvalidCharacter, fault_message}
use Rattle.humantime.specs.PrintedDurations.{CanonicalizesTo}
use Rattle.humantime.specs.TimestampResults.{moment_text}
use Rattle.humantime.specs.Timestamps.{IsPrinted, IsStrictMoment, IsWeakMoment, first_failed, places_of, strict_checks, timestamp_message, weak_checks}
use Rattle.humantime.specs.Values.{nanos_per_second}
use Rattle.humantime.specs.declared.date.error.TimestampError.{TimestampError}
use Rattle.humantime.proofs.OnLiterals.{humantime_on_literals, timestamps_on_literals}
use Rattle.humantime.proofs.Theorems.{canonical_again, one_stamp_outcome, printed_moment_reads, places_of_bound}
use Rattle.humantime_cli.specs.Answers.{Answer, Answers, OneAnswer, Streams, streams, Ends, EndsWith, Whole, Cut, Duration, Strict, Weak, IsMomentOutput, outcome}
use Rattle.humantime_cli.specs.Writes.{line}

-- If the answer to the arguments is known, the program ends with it.
ends_with : (words : List (List ℕ)) (answer : Answer) {status : ℕ} {old new : Streams}
    → Answers words answer → OneAnswer words → Ends words status old new
    → EndsWith answer status old new
ends_with words answer {status = status} {old = old} {new = new} answers one is =
    subst (λ a. EndsWith a status old new) (one.same answer is.answer answers is.answers) is.ends

-- Unless the status is 3, it is 0, and exactly this line was printed.
abbrev Printed : List ℕ → ℕ → List ℕ → List ℕ → List ℕ → List ℕ → Type 0
Printed out status old_out new_out old_err new_err =
    status ≢ 3 → (status ≡ 0) × (new_out ≡ old_out ++ out) × (new_err ≡ old_err)

printed : {text : List ℕ} {s : ℕ} {o n e m : List ℕ}
    → EndsWith (Some (Ok text)) s (streams (Some o) (Some e)) (streams (Some n) (Some m))
    → Printed (line text) s o n e m
printed (Whole same taken told) other = (same, taken, told ∙ append-nil _)
printed (Cut three fronts) other = absurd (other three)

-- Unless the status is 3, it is this one, and exactly this line was written to standard error.
abbrev Explained : ℕ → List ℕ → ℕ → List ℕ → List ℕ → List ℕ → List ℕ → Type 0
Explained code err status old_out new_out old_err new_err =
    status ≢ 3 → (status ≡ code) × (new_out ≡ old_out) × (new_err ≡ old_err ++ err)

explained : {answer : Answer} {s : ℕ} {o n e m : List ℕ}
    → EndsWith answer s (streams (Some o) (Some e)) (streams (Some n) (Some m))
    → (outcome answer).1 ≡ []
    → Explained (outcome answer).0 (outcome answer).2 s o n e m
explained (Whole same taken told) none other = (same, rw none at taken ∙ append-nil _, told)
explained (Cut three fronts) none other = absurd (other three)

-- If the status is 3, a prefix of the output was written.
front_written : {printed : List ℕ} {s : ℕ} {o n e m : List ℕ}
    → EndsWith (Some (Ok printed)) s (streams (Some o) (Some e)) (streams (Some n) (Some m)) → s ≡ 3
    → ((k : ℕ) × (k < length (line printed)) × (n ≡ o ++ take k (line printed))) × (m ≡ e)
front_written (Whole zero taken told) three = absurd (omega (arith, zero, three))
front_written (Cut three (inl fronts)) again = fronts
front_written (Cut three (inr (kept, (n, before, taken)))) again = absurd (omega (arith, before))

-- If the status is 3 after an error, nothing was printed, and a prefix of the message was written
-- to standard error.
front_explained : {message : List ℕ} {s : ℕ} {o n e m : List ℕ}
    → EndsWith (Some (Err message)) s (streams (Some o) (Some e)) (streams (Some n) (Some m))
    → s ≡ 3
    → (n ≡ o) × ((k : ℕ) × (k < length (line message)) × (m ≡ e ++ take k (line message)))
front_explained (Whole one taken told) three = absurd (omega (arith, one, three))
front_explained (Cut three (inl ((n, before, taken), kept))) again = absurd (omega (arith, before))
front_explained (Cut three (inr fronts)) again = fronts

-- ---- the answers to any arguments, and what is written for them

any_outcome : (text : List ℕ) → (outcome (Some (Ok text)) ≡ (0, text ++ 10 ∷ [], []))
    × (outcome (Some (Err text)) ≡ (1, [], text ++ 10 ∷ []))
    × (outcome None ≡ (2, [], codes "usage: humantime duration|strict|weak TEXT\n"))
any_outcome text = (refl, refl, refl)

abbrev answered : List ℕ → List ℕ → Result (List ℕ) (List ℕ) → Type 0
answered name text output = Answers (name ∷ text ∷ []) (Some output)

any_text : (text shown : List ℕ) (t : ℤ) (fault : Fault) (e : TimestampError)
    → (CanonicalizesTo text shown → answered (codes "duration") text (Ok shown))
    × (HasFault (chars text) fault → answered (codes "duration") text (Err (fault_message fault)))
    × (IsStrictMoment text t × IsPrinted t (places_of t) shown → answered (codes "strict") text (Ok shown))
    × (IsWeakMoment text t × IsPrinted t (places_of t) shown → answered (codes "weak") text (Ok shown))
    × (first_failed (strict_checks text) ≡ Some e → answered (codes "strict") text (Err (timestamp_message e)))
    × (first_failed (weak_checks text) ≡ Some e → answered (codes "weak") text (Err (timestamp_message e)))
any_text text shown t fault e = (
  λ is. (_, Duration, text, refl, is),
  λ is. (_, Duration, text, refl, (fault, is, refl)),
  λ is. (_, Strict, text, refl, (t, is.0, is.1)),
  λ is. (_, Weak, text, refl, (t, is.0, is.1)),
  λ is. (_, Strict, text, refl, (e, is, refl)),
  λ is. (_, Weak, text, refl, (e, is, refl)),
)

-- ---- the answers to the arguments of the callers

duration_printed : Answers (codes "duration" ∷ codes "2h 37min" ∷ []) (Some (Ok (codes "2h 37m")))
unfolding humantime_on_literals
duration_printed = (
  codes "duration",
  Duration,
  codes "2h 37min",
  refl,
  ((canonical_again (codes "2h 37min")).text (codes "2h 37m")).0 refl,
)

fault_explained : Answers (codes "duration" ∷ codes "1~" ∷ []) (Some (Err (codes "invalid character at 1")))
unfolding humantime_on_literals
fault_explained = (
  codes "duration",
  Duration,
  codes "1~",
  refl,
  (InvalidCharacter 1, ((canonical_again (codes "1~")).fault (InvalidCharacter 1)).0 refl, refl),
)

-- The printed text of a moment is an output of the text that denotes the moment.
moment_printed : (Denotes : ℤ → Type 0) (Has : TimestampError → Type 0) (t : ℤ) (text : List ℕ)
    → Denotes t → moment_text t (places_of t) ≡ Some text → IsMomentOutput Denotes Has (Ok text)
moment_printed Denotes Has t text denoted is = (
  t,
  denoted,
  (((printed_moment_reads t (places_of t) (places_of_bound t)).displayed text).0 is).1,
)

strict_read : Answers (codes "strict" ∷ codes "2018-02-14T00:28:07Z" ∷ []) (Some (Ok (codes "2018-02-14T00:28:07Z")))
unfolding timestamps_on_literals
strict_read =
    let t : ℤ = pos (1_518_568_087 * nanos_per_second) in (
      codes "strict",
      Strict,
      codes "2018-02-14T00:28:07Z",
      refl,
      moment_printed
          (IsStrictMoment (codes "2018-02-14T00:28:07Z"))
          (λ e. first_failed (strict_checks (codes "2018-02-14T00:28:07Z")) ≡ Some e) t _
          (((one_stamp_outcome (codes "2018-02-14T00:28:07Z")).1.value t).0 refl) refl,
    )

-- What a caller with these arguments can conclude.
abbrev Ran : List (List ℕ) → (ℕ → List ℕ → List ℕ → List ℕ → List ℕ → Type 0) → Type 0
Ran words Told = (s : ℕ) (o n e m : List ℕ) → OneAnswer words
    → Ends words s (streams (Some o) (Some e)) (streams (Some n) (Some m)) → Told s o n e m

-- The whole duration was printed.
pub printed_whole : Ran (codes "duration" ∷ codes "2h 37min" ∷ []) (Printed (codes "2h 37m\n"))
printed_whole _ _ _ _ _ one ends =
    printed (ends_with _ (Some (Ok (codes "2h 37m"))) duration_printed one ends)

-- With status 3, at most the first six of the seven bytes of the line were written.
pub printed_cut : Ran (codes "duration" ∷ codes "2h 37min" ∷ [])
    (λ s o n e m. s ≡ 3 → ((k : ℕ) × (k < 7) × (n ≡ o ++ take k (codes "2h 37m\n"))) × (m ≡ e))
printed_cut _ _ _ _ _ one ends three =
    front_written (ends_with _ (Some (Ok (codes "2h 37m"))) duration_printed one ends) three

-- The message of the error was printed.
pub fault_printed : Ran (codes "duration" ∷ codes "1~" ∷ []) (Explained 1 (codes "invalid character at 1\n"))
fault_printed _ _ _ _ _ one ends =
    explained (ends_with _ (Some (Err (codes "invalid character at 1")))
    fault_explained one ends) refl

-- With status 3, nothing was printed, and at most the first 22 of the 23 bytes of the message were
-- written.
pub fault_cut : Ran (codes "duration" ∷ codes "1~" ∷ []) (λ s o n e m.
    s ≡ 3 → (n ≡ o) × ((k : ℕ) × (k < 23) × (m ≡ e ++ take k (codes "invalid character at 1\n"))))
fault_cut _ _ _ _ _ one ends three =
    front_explained (ends_with _ (Some (Err (codes "invalid character at 1")))
    fault_explained one ends) three

-- A timestamp in the strict format was printed.
pub strict_printed : Ran (codes "strict" ∷ codes "2018-02-14T00:28:07Z" ∷ [])
    (Printed (codes "2018-02-14T00:28:07Z\n"))
strict_printed _ _ _ _ _ one ends =
    printed (ends_with _ (Some (Ok (codes "2018-02-14T00:28:07Z"))) strict_read one ends)
