use Rattle.humantime.proofs.Checks.{layout_tested}
use Rattle.humantime.proofs.date.parse.is_in_layout.Goals as goal

pub returns : goal.returns
returns c = layout_tested c.args.bytes.now c.requires.long c.type_inv.bytes c.requires.separator
