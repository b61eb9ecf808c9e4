use Rattle.std.proofs.Common.{flat_map}
use Rattle.std.specs.Fmt.{HasWritten, IsPlainFormatter}
use Rattle.humantime_lines.specs.Escapes.{escaped_char}
use Rattle.humantime_lines.proofs.escaped.EscapedDisplay.fmt.Given as goal

abbrev pub invariant-chars : goal.invariant-chars
invariant-chars g l = IsPlainFormatter l.initial.f
    → HasWritten g.W.Write.write_str_gives l.initial.f (flat_map escaped_char l.yielded) l.f
