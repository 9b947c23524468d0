-- `open_read` meets its contract, by that of `open`: the session where nothing is refused is in bounds (`opened_told`).
use Rattle.file_printing.proofs.Laws.{opened_told}
use Rattle.file_printing.proofs.open_read.Goals as goal

pub returns-in-None : goal.returns-in-None
returns-in-None c = opened_told _ (rw c.in-None.is at c.open-opened.ensures)
