use Rattle.std.proofs.Common.{◌+◌, ◌-◌, append-nil, arith, length}
use Rattle.humantime_lines.proofs.Windows.{cut_written, whole_written}
use Rattle.humantime_lines.proofs.window.window_of.Goals as goal

pub returns-then-room_of_two-left : goal.returns-then-room_of_two-left
returns-then-room_of_two-left c =
    let left = 78 - (length c.cut_to.result.0.now + c.line_room.result) in
    let front = c.cut_to.ensures.shown in
    rw append-nil
    (whole_written _ _ _ _ _ left (omega arith) (omega arith) (omega arith) front)

pub returns : goal.returns
returns c =
    let left = 78 - (length c.cut_to.result.0.now + c.line_room.result) in
    let front = c.cut_to.ensures.shown in
    let part = c.start_within.ensures in
    let after = c.start_within-2.ensures in
    cut_written _ _ _ _ _ left _ _ _ (omega arith) (omega arith) (omega arith) front part
    (omega arith) after
