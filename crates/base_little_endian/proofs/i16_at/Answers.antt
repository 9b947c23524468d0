-- `i16_at` meets its contract: the word that std makes of the bytes (`u16-of`), as a signed number.
use mathlib.Core.Path.{ap, ◌∙◌}
use mir.Facts.{to_z-of_z}
use mir.Syntax.{w16}
use mir.Val.{to_z}
use borrow.Author.Rules.{sfits_of}
use Rattle.base_little_endian.specs.Fields.{i16_at}
use Rattle.base_little_endian.proofs.Laws.{u16-of}
use Rattle.base_little_endian.proofs.i16_at.Goals as goal

pub returns : goal.returns
unfolding i16_at
returns c = to_z-of_z {w = w16} (sfits_of c.from_le_bytes.type_inv) ∙ c.from_le_bytes.ensures ∙ ap (to_z w16) (u16-of c.args.bytes.now c.args.at)
