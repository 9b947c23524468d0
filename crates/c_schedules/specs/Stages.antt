-- Schedules by stages, as the code takes them. A reader may pass this page over: the contracts of `write` and `inspect` do not cite it.
use Rattle.std.specs.Prelude.{cond, ℕ, ◌≤◌, ◌<◌, ℤ, ltb}
use Rattle.limits.specs.Limits.{highest_level, highest_total_code}
use Rattle.session.specs.declared.Session.{Session}
use Rattle.schedule_raising.specs.Raising.{raised_to}
use Rattle.schedule_writing.specs.Writing.{levels_through}
use Rattle.schedule_writing.specs.Stages.{ValueChecked, refused_as, day_checked, total_checked}
use Rattle.c_schedules.specs.declared.Subject.{Subject}
use Rattle.c_schedules.specs.declared.Subject.TheVariants.{Day, Total}

-- a value by its subject's present range. 7: a day not in the profile; then 9 and 10
abbrev pub checked_for : Session → Subject → ℤ → ValueChecked
checked_for s (Day day) value = cond (ltb day s.days) (day_checked s day value) (refused_as 7)
checked_for s Total value = total_checked s value

-- the code of a value for the subject: a level, for a day in the profile, or a held total
abbrev pub CodeFits : Session → Subject → ℕ → Type 0
CodeFits s (Day day) level = (day < s.days) × (level ≤ highest_level)
CodeFits s Total total = total ≤ highest_total_code

-- the schedule's levels, by the value's code
abbrev pub levels_for : Session → Subject → ℕ → ℕ → ℕ
levels_for s (Day day) level = levels_through s.present.floors s.present.ceilings s.rises s.days s.first s.present.lowest day level
levels_for s Total total = raised_to s.present.floors s.present.ceilings s.rises s.days s.first total
