-- `put_i32` meets its contract: std's bytes of the number (`i32-to`), stored one after the other (`four_stored`).
use mathlib.Core.Path.{◌∙◌}
use Rattle.base_little_endian.proofs.Laws.{i32-to, four_stored}
use Rattle.base_little_endian.proofs.put_i32.Goals as goal

pub returns : goal.returns
returns c = four_stored c.args.out.now c.args.at c.args.z (c.to_le_bytes.ensures ∙ i32-to c.ranges.z)
