-- `check_day` meets its contract: the day is not in the profile, or what was read of it is the session's.
use Prim.Native.Nat.{◌<◌}
use mir.Facts.{to_z-of_z}
use native.Mathlib.Omega.{arith}
use Rattle.c_layout.specs.Layout.{decoding}
use Rattle.c_layout.proofs.Inverse.{decoding_in_bounds}
use Rattle.c_schedules.proofs.Laws.{day_missing, day-read}
use Rattle.c_schedules.proofs.check_day.Goals as goal
use Rattle.c_schedules.proofs.check_day.Goals.{Else-days_of-day}

known : (c : Else-days_of-day) → c.args.day < (decoding c.args.session.now).days
known c = omega (arith, c.days_of.ensures, c.if-days_of-day.false)

pub returns-then-days_of-day : goal.returns-then-days_of-day
returns-then-days_of-day c = day_missing (decoding c.args.session.now) _ _ (omega (arith, c.days_of.ensures, c.if-days_of-day.true))

pub check_day-requires : goal.check_day-requires
check_day-requires c =
    omega (arith, c.ceiling_of.ensures, (decoding_in_bounds c.args.session.now).present.ceiling _ (known (goal.at.check_day-requires c).Else-days_of-day))

pub returns : goal.returns
returns c =
    day-read (decoding c.args.session.now) _ _ (known (goal.at.returns c).Else-days_of-day) (c.floor_of.ensures, c.ceiling_of.ensures, c.is_spent.ensures)
    (rw (to_z-of_z c.ranges.value) at c.check_day.ensures)
