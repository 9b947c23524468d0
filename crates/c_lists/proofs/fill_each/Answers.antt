use Rattle.theory_lists.specs.Filled.{filled_none, filled_more}
use Rattle.c_lists.proofs.fill_each.Goals as goal

pub loop-j-init : goal.loop-j-init
loop-j-init g c = λ f h. filled_none

pub loop-j-preserved : goal.loop-j-preserved
loop-j-preserved g c = λ f h. filled_more (c.loop-j.invariant f h) c.loop-j-test.true (h c.loop-j.j _ c.loop-j-test.true c.element.ensures)
