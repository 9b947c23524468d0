-- `floor_of` meets its contract: the day's cell is read, at most as high as a level (`floor-held`).
use mathlib.Core.Path.{◌∙◌}
use Rattle.c_layout.proofs.Held.{floor-held}
use Rattle.c_loading.proofs.floor_of.Goals as goal

pub returns : goal.returns
returns c = c.level.ensures ∙ floor-held _ _ c.requires.1
