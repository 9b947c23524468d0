-- `check` meets its contract: each arm knows its subject.
use mir.Facts.{to_z-of_z}
use Rattle.c_schedules.proofs.check.Goals as goal

pub returns-in-Day : goal.returns-in-Day
returns-in-Day c = rw c.in-Day.is (rw (to_z-of_z c.ranges.value) at c.check_day.ensures)

pub returns-in-Total : goal.returns-in-Total
returns-in-Total c = rw c.in-Total.is (rw (to_z-of_z c.ranges.value) at c.check_total.ensures)
