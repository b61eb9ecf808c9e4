use Rattle.std.proofs.Common.{arith}
use Rattle.humantime_std.proofs.Inside.{fields, fields_open}
use Rattle.humantime_std.proofs.located.wrong_field.Goals as goal

pub returns-then-is_none-clause-range : goal.returns-then-is_none-clause-range
unfolding fields_open
returns-then-is_none-clause-range c = grind (arith, fields)
