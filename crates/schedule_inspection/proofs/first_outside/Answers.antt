use mathlib.Core.Path.{sym, ◌∙◌}
use Rattle.theory_lists.specs.First.{nowhere_none, nowhere_more}
use Rattle.schedule_inspection.proofs.Stages.{found_here, found_none}
use Rattle.schedule_inspection.proofs.first_outside.Goals as goal

pub loop-day-init : goal.loop-day-init
loop-day-init c = nowhere_none

pub returns-then-is_day_outside : goal.returns-then-is_day_outside
returns-then-is_day_outside c = found_here _ _ c.loop-day.invariant c.loop-day-test.true (sym c.is_day_outside.ensures ∙ c.if-is_day_outside.true)

pub loop-day-preserved : goal.loop-day-preserved
loop-day-preserved c = nowhere_more c.loop-day.invariant c.loop-day-test.true (sym c.is_day_outside.ensures ∙ c.if-is_day_outside.false)

pub returns : goal.returns
returns c = found_none _ _ c.loop-day.invariant c.loop-day-test.false
