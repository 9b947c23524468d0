-- `ceiling_of` meets its contract: the day's cell is read, at most as high as a level (`ceiling-held`).
use mathlib.Core.Path.{◌∙◌}
use Rattle.c_layout.proofs.Held.{ceiling-held}
use Rattle.c_loading.proofs.ceiling_of.Goals as goal

pub returns : goal.returns
returns c = c.level.ensures ∙ ceiling-held _ _ c.requires.1
