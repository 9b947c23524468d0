-- What writing and inspecting schedules by a session's bytes give. A session's bytes of another length, or a list that is not n long, are refused with 2.
use Rattle.std.specs.Prelude.{cond, ◌&&◌, List, ℕ, ℤ}
use Rattle.limits.specs.Limits.{lowest_point}
use Rattle.base_codes.specs.Code.{decoded}
use Rattle.session.specs.declared.Session.{Session}
use Rattle.schedule_writing.specs.Writing.{day_write_refusal, total_write_refusal, day_levels, total_levels}
use Rattle.schedule_inspection.specs.Inspecting.{Finding, refused, inspected}
use Rattle.c_lists.specs.Lists.{is_long, points_in}
use Rattle.c_layout.specs.Layout.{decoding}
use Rattle.c_sessions.specs.Sessions.{is_session}
use Rattle.c_schedules.specs.declared.Subject.{Subject}
use Rattle.c_schedules.specs.declared.Subject.TheVariants.{Day, Total}

-- the first refusal of writing a schedule for a day, or for the total, into a list that is n long
abbrev pub refusal_for : Session → Subject → ℤ → ℕ
refusal_for s (Day day) value = day_write_refusal s day value s.days
refusal_for s Total value = total_write_refusal s value s.days

-- the schedule's setpoint on each day
abbrev pub setpoint_for : Session → Subject → ℤ → ℕ → ℤ
setpoint_for s (Day day) value k = decoded lowest_point (day_levels s day value k)
setpoint_for s Total value k = decoded lowest_point (total_levels s value k)

unfoldable pub write_refusal : List ℕ → Subject → ℤ → List ℕ → ℕ
write_refusal b subject value l = cond (is_session b && is_long l (decoding b).days) (refusal_for (decoding b) subject value) 2

unfoldable pub inspected_over : List ℕ → List ℕ → Finding
inspected_over b l = cond (is_session b && is_long l (decoding b).days) (inspected (decoding b) (points_in l (decoding b).days)) (refused 2)
