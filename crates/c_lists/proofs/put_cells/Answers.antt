use Rattle.base_little_endian.proofs.Laws.{u16-length}
use Rattle.theory_lists.specs.Rows.{even_none, even_more}
use Rattle.c_lists.proofs.put_cells.Goals as goal

pub loop-j-init : goal.loop-j-init
loop-j-init c = even_none 2

pub loop-j-preserved : goal.loop-j-preserved
loop-j-preserved c =
    even_more 2 (λ k. u16-length _) c.loop-j.invariant c.loop-j-test.true c.put_u16.ensures
