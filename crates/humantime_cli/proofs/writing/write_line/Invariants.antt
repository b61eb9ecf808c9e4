use Rattle.std.proofs.Common.{◌<◌, ◌-◌, [], length, take, unwrap_or}
use Rattle.std.specs.Io.KnownBytes.{Appends}
use Rattle.humantime_cli.specs.Writes.{line}
use Rattle.humantime_cli.proofs.writing.write_line.Given as goal

abbrev pub invariant-loop-done : goal.invariant-loop-done
invariant-loop-done g l =
    let whole = line (unwrap_or (g.D.Display.output l.fn.value) []) in
    (l.done < length whole)
    × Appends (g.W.Write.contents l.fn.to) (g.W.Write.contents l.to) (take l.done whole)

abbrev pub decreases-loop-done : goal.decreases-loop-done
decreases-loop-done g l = length (line (unwrap_or (g.D.Display.output l.fn.value) [])) - l.done
