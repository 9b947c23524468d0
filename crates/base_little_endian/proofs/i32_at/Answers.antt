-- `i32_at` meets its contract: the word that std makes of the bytes (`u32-of`), as a signed number.
use mathlib.Core.Path.{ap, ◌∙◌}
use mir.Facts.{to_z-of_z}
use mir.Syntax.{w32}
use mir.Val.{to_z}
use borrow.Author.Rules.{sfits_of}
use Rattle.base_little_endian.specs.Fields.{i32_at}
use Rattle.base_little_endian.proofs.Laws.{u32-of}
use Rattle.base_little_endian.proofs.i32_at.Goals as goal

pub returns : goal.returns
unfolding i32_at
returns c = to_z-of_z {w = w32} (sfits_of c.from_le_bytes.type_inv) ∙ c.from_le_bytes.ensures ∙ ap (to_z w32) (u32-of c.args.bytes.now c.args.at)
