use denote.Text.{Utf8}
use denote.Shadow.{shadow}
use Rattle.humantime_settings.proofs.raw_strings.after.Given as goal

-- What is left of the content is text.
abbrev pub invariant-loop-c : goal.invariant-loop-c
invariant-loop-c l =
    (goal.iterator-loop-c).can_next l.c-iterator ×
    (goal.iterator-loop-c).is_finite l.c-iterator ×
    shadow (Utf8 l.rest)
