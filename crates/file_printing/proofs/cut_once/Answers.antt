-- `cut_once` meets its contract: a refusal is that of the cut, else its session is told.
use Rattle.file_printing.proofs.Laws.{cut_told}
use Rattle.file_printing.proofs.cut_once.Goals as goal

pub returns : goal.returns
returns c = cut_told _ _ c.requires c.cut_held-after.ensures.value c.in_ok-after.was
