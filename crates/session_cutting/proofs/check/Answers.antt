-- `check` meets its contract: each arm knows the kind, and that its value fits.
use Rattle.session_cutting.specs.Stages.{checked_cut}
use borrow.Author.Rules.{rules}
use Rattle.session_cutting.proofs.check.Goals as goal

pub returns-in-DayFloor : goal.returns-in-DayFloor
unfolding checked_cut
returns-in-DayFloor c = rw c.in-DayFloor.is (search rules)

pub returns-in-DayCeiling : goal.returns-in-DayCeiling
unfolding checked_cut
returns-in-DayCeiling c = rw c.in-DayCeiling.is (search rules)

pub returns-in-TotalFloor : goal.returns-in-TotalFloor
unfolding checked_cut
returns-in-TotalFloor c = rw c.in-TotalFloor.is (search rules)

pub returns-in-TotalCeiling : goal.returns-in-TotalCeiling
unfolding checked_cut
returns-in-TotalCeiling c = rw c.in-TotalCeiling.is (search rules)
