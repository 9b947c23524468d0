-- `put_block` meets its contract: the cells are stored, and zeros after them, which together are the block (`laid_last`).
use Prim.Native.Nat.{◌+◌, ◌-◌, ◌*◌}
use mathlib.Core.Path.{◌≡◌, ap, ◌∙◌}
use lib.ListN.{replicate}
use lib.Seq.{sets}
use Rattle.theory_lists.specs.Sum.{at}
use Rattle.c_lists.specs.Lists.{cell_bytes}
use Rattle.c_layout.specs.Layout.{block_bytes}
use Rattle.c_layout.proofs.Lengths.{cells_length}
use Rattle.c_storing.proofs.Laws.{laid, laid_last}
use native.Mathlib.Omega.{arith}
use Rattle.c_storing.proofs.put_block.Goals as goal

pub returns : goal.returns
unfolding block_bytes
returns c =
    let a = c.args in
    let q : a.place + 1024 - (a.place + a.n * 2) ≡ (512 - a.n) * 2 = omega arith in
    laid_last (laid a.out.now a.place (cell_bytes (at a.cells.now) a.n) c.put_cells.ensures (cells_length _ a.n))
    (replicate ((512 - a.n) * 2) 0) (c.put_zeros.ensures ∙ ap (λ m. sets c.put_cells.new.out (a.place + a.n * 2) (replicate m 0)) q)
