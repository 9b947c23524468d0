-- `put_i16` meets its contract: the bytes that are stored are those of the number's bits.
use mathlib.Core.Path.{ap, ◌∙◌}
use lib.Seq.{sets}
use Rattle.base_little_endian.proofs.Laws.{i16_bits}
use Rattle.base_little_endian.proofs.put_i16.Goals as goal

pub returns : goal.returns
returns c = c.put_u16.ensures ∙ ap (sets c.args.out.now c.args.at) (i16_bits c.ranges.z c.cast_unsigned.ensures)
