-- `u16_at` meets its contract: the word that std makes of the bytes (`u16-of`).
use mathlib.Core.Path.{◌∙◌}
use Rattle.base_little_endian.proofs.Laws.{u16-of}
use Rattle.base_little_endian.proofs.u16_at.Goals as goal

pub returns : goal.returns
returns c = c.from_le_bytes.ensures ∙ u16-of c.args.bytes.now c.args.at
