-- `put_ranges` meets its contract: the floors' block is stored, and the ceilings' block after it (`laid_last`).
use Rattle.c_layout.specs.Layout.{block_bytes}
use Rattle.c_layout.proofs.Lengths.{block_length_lem}
use Rattle.c_storing.proofs.Laws.{laid, laid_last}
use Rattle.c_storing.proofs.put_ranges.Goals as goal

pub returns : goal.returns
returns c =
    let a = c.args in
    laid_last (laid a.out.now a.place (block_bytes a.floors.now a.n) c.put_block.ensures (block_length_lem _ a.n c.requires.0))
    (block_bytes a.ceilings.now a.n) c.put_block-2.ensures
