use mathlib.Core.Path.{sym, ◌∙◌}
use Rattle.theory_lists.specs.First.{nowhere_none, nowhere_more}
use Rattle.schedule_inspection.proofs.Stages.{found_here, found_none}
use Rattle.schedule_inspection.proofs.first_fallen.Goals as goal

pub loop-k-init : goal.loop-k-init
loop-k-init c = nowhere_none

pub returns-then-is_fallen : goal.returns-then-is_fallen
returns-then-is_fallen c = found_here _ _ c.loop-k.invariant c.loop-k-test.true (sym c.is_fallen.ensures ∙ c.if-is_fallen.true)

pub loop-k-preserved : goal.loop-k-preserved
loop-k-preserved c = nowhere_more c.loop-k.invariant c.loop-k-test.true (sym c.is_fallen.ensures ∙ c.if-is_fallen.false)

pub returns : goal.returns
returns c = found_none _ _ c.loop-k.invariant c.loop-k-test.false
