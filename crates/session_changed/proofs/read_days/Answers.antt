use Rattle.theory_lists.specs.Filled.{filled_none, filled_more}
use Rattle.session_changed.proofs.read_days.Goals as goal

pub loop-k-init : goal.loop-k-init
loop-k-init c = filled_none

pub loop-k-preserved : goal.loop-k-preserved
loop-k-preserved c = filled_more c.loop-k.invariant c.loop-k-test.true c.u16_at.ensures
