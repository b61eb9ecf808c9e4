use Rattle.std.proofs.Common.{◌≡◌, ◌-◌, ◌<◌, ◌≤◌, ◌∙◌, ℕ, IsCharBoundary, ap, arith, max, unwrap_or}
use Rattle.std.proofs.Common.{take-append-drop, ⊎_elim}
use Rattle.std.proofs.lemmas.Bool.{cases_lt}
use Rattle.humantime.specs.DurationErrors.{IsRangeIn}
use Rattle.humantime_lines.specs.Lines.{line_after}
use Rattle.humantime_settings.proofs.error.settings_error.Goals as goal

-- What holds of two numbers holds of the greater one.
of_greater : (P : ℕ → Type 0) (a b : ℕ) → P a → P b → P (max a b)
of_greater P a b first second =
    ⊎_elim
    (λ (below : a < b). let is : max a b ≡ b = omega arith in rw is second)
    (λ (above : b ≤ a). let is : max a b ≡ a = omega arith in rw is first)
    (cases_lt a b)

pub returns : goal.returns
returns c =
    let text = c.args.text.now in
    let start = c.floor_char_boundary-start.result in
    let end = c.max-end.result in
    let begins = c.floor_char_boundary-start.ensures.boundary in
    let inside : IsCharBoundary text end =
    let other = c.floor_char_boundary.ensures.boundary in
    rw c.max-end.ensures (of_greater (IsCharBoundary text) _ _ other begins) in
    let range : IsRangeIn text start end = (omega arith, begins, inside) in
    let report = c.report-report.ensures in
    let part = c.in_ok-from_str-2.ensures.ok in
    let after = c.in_ok-from_str-3.ensures.ok in (
      begins,
      c.unwrap_or.ensures ∙ ap (λ n. unwrap_or n 1) (report.number range),
      c.in_ok-from_str.ensures.ok ∙ report.before begins,
      rw (part, after, report.part range, report.after range)
          (take-append-drop (end - start) (line_after text start)),
    )
