use Rattle.std.proofs.Common.{◌∙◌, ◌++◌, ◌∷◌, ℕ, List, [], ap, append-nil, flat_map, map-id, rules, sym}
use Rattle.std.proofs.lemmas.Grind.{flat_map-append}
use Rattle.std.proofs.lemmas.Iterator.{YieldsList-from_chars}
use Rattle.std.proofs.lemmas.Iterator.Consumers.{YieldsList-end}
use Rattle.std.proofs.Output.{has_written_append, has_written_of_eq}
use Rattle.std.specs.Fmt.{HasWritten}
use Rattle.std.specs.declared.fmt.Formatter.{Formatter}
use Rattle.humantime_lines.specs.Escapes.{escaped_char}
use Rattle.humantime_lines.proofs.escaped.EscapedDisplay.fmt.Goals as goal

-- One more character is written.
one_more : {W : Type 0} {took : W → List ℕ → W → Type 0} {f g h : Formatter W} (cs : List ℕ) (c : ℕ)
    → HasWritten took f (flat_map escaped_char cs) g → HasWritten took g (escaped_char c) h
    → HasWritten took f (flat_map escaped_char (cs ++ c ∷ [])) h
one_more {took} {f} {g} {h} cs c now wrote =
    let both = has_written_append took f _ g _ h now wrote in
    rw (flat_map-append escaped_char cs (c ∷ []), append-nil) both

pub chars-preserved : goal.chars-preserved
chars-preserved g c = λ plain.
    let now = c.chars.invariant plain in
    one_more c.chars.yielded _ now (c.in_ok-write_escaped_char.ensures now.plain (search rules))

pub returns-clause-writes : goal.returns-clause-writes
returns-clause-writes g c = λ plain _.
    let all = YieldsList-from_chars c.args.self.now.0.now (search rules) (search rules) in
    let yielded = c.chars.yielded in
    let steps = c.next.ensures.steps in
    let end = YieldsList-end all yielded _ c.chars.yielded_by _ _ c.in-None.is steps in
    let whole = ap (flat_map escaped_char) (sym (map-id yielded) ∙ end.0) in
    has_written_of_eq _ _ _ _ _ whole (c.chars.invariant plain)
