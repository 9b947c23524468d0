-- `first_outside` meets its contract: no day below the counter is outside its range.
use Rattle.theory_lists.specs.First.{Nowhere}
use Rattle.schedule_inspection.specs.Stages.{day_outside}
use Rattle.schedule_inspection.proofs.first_outside.Given as goal

abbrev pub invariant-loop-day : goal.invariant-loop-day
invariant-loop-day l = Nowhere (day_outside l.setpoints l.floors l.ceilings) l.n l.day
