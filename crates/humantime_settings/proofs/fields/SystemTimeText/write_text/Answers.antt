use Rattle.humantime.specs.Laws.{MomentPrintsAndReads}
use Rattle.humantime.specs.TimestampResults.{weak_answer}
use Rattle.humantime.specs.Timestamps.{IsPrinted, cut, places_of}
use Rattle.std.proofs.Common.{◌≡◌, arith, ℕ, ℤ, List, Ok}
use Rattle.std.proofs.lemmas.Result.{on_ok_weaker}
use Rattle.humantime_settings.proofs.fields.SystemTimeText.write_text.Goals as goal

-- The default number of digits loses nothing.
kept : (m : ℤ) → cut m 9 ≡ m → cut m (places_of m) ≡ m
kept m whole = grind arith

-- A text that is printed for a moment with this number of digits is parsed as the moment.
parsed : (text : List ℕ) (m : ℤ) → MomentPrintsAndReads m (places_of m)
    → IsPrinted m (places_of m) text → weak_answer text ≡ Ok m
parsed text m law printed = rw (kept m law.whole) at law.weak text printed

pub returns-in-Some : goal.returns-in-Some
returns-in-Some g c =
    let stamp = c.format_rfc3339-stamp.ensures in
    let law : MomentPrintsAndReads c.args.self.now (places_of c.args.self.now) =
    rw (stamp.moment, stamp.places) at c.printed_moment_reads.ensures in
    let printed : IsPrinted c.args.self.now (places_of c.args.self.now) c.in-Some.text.now =
    rw (stamp.moment, stamp.places) at c.in-Some.ensures.text in
    on_ok_weaker c.str.result (λ logs. (c.in-Some.text.now, printed, parsed _ _ law printed, logs)) c.str.ensures
