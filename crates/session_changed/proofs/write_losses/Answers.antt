use Rattle.theory_lists.specs.Filled.{filled_none, filled_more}
use Rattle.session_changed.proofs.Laws.{widths_lost}
use Rattle.session_changed.proofs.write_losses.Goals as goal

pub loop-k-init : goal.loop-k-init
loop-k-init c = filled_none

pub loop-k-preserved : goal.loop-k-preserved
loop-k-preserved c =
    filled_more c.loop-k.invariant c.loop-k-test.true (widths_lost _ _ _ _ c.saturating_sub-before.ensures c.saturating_sub-after.ensures c.saturating_sub.ensures)
