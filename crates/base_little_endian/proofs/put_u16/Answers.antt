-- `put_u16` meets its contract: std's bytes of the number (`u16-to`), stored one after the other (`two_stored`).
use mathlib.Core.Path.{◌∙◌}
use Rattle.base_little_endian.proofs.Laws.{u16-to, two_stored}
use Rattle.base_little_endian.proofs.put_u16.Goals as goal

pub returns : goal.returns
returns c = two_stored c.args.out.now c.args.at c.args.x (c.to_le_bytes.ensures ∙ u16-to c.ranges.x)
