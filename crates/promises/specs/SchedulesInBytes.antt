-- Document 01, "Schedules out and in", as a caller in C sees it, as statements.
use Rattle.std.specs.Prelude.{◌≡◌, true, false, ◌&&◌, ◌↔◌, List, ℕ, ◌*◌, ◌<◌, ℤ, length}
use Rattle.base_codes.specs.Code.{on}
use Rattle.session.specs.Profile.{Profile, total}
use Rattle.session.specs.Showing.{floor_on, ceiling_on, total_floor, total_ceiling}
use Rattle.schedule_inspection.specs.Inspecting.{refused, kept}
use Rattle.promises.specs.Cuts.{Kept}
use Rattle.promises.specs.Schedules.{ScheduleFor, Ranged, Inspects}
use Rattle.c_lists.specs.Lists.{is_long, points_in, lent_points}
use Rattle.c_layout.specs.Layout.{decoding}
use Rattle.c_sessions.specs.Sessions.{is_session}
use Rattle.c_schedules.specs.Schedules.{setpoint_for, write_refusal, inspected_over}
use Rattle.c_schedules.specs.declared.Subject.{Subject}
use Rattle.c_schedules.specs.declared.Subject.TheVariants.{Day, Total}
use Rattle.promises.specs.InBytes.{ByteCutCall, calls_by_value, CameFrom}

-- ---- writing

-- what a schedule of the profile is written for: the day's setpoint, or the total
abbrev pub value_in : Profile → Subject → List ℤ → ℤ
value_in p (Day day) x = on x day
value_in p Total x = total p.first x

-- the list afterwards (the contract of `cloverdrum_write_day` and `cloverdrum_write_total`)
abbrev pub list_written : List ℕ → Subject → ℤ → List ℕ → List ℕ
list_written b subject v l = lent_points (write_refusal b subject v l) (setpoint_for (decoding b) subject v) (decoding b).days l

-- what writing makes of a lent list l: a refusal leaves it; otherwise its points are a schedule with the value, which keeps every valid cut and
-- passes inspection
pub record Written (p : Profile) (hs : List ByteCutCall) (b : List ℕ) (subject : Subject) (v : ℤ) (l : List ℕ) : Type 0 where
  pub left : (write_refusal b subject v l ≡ 0 → ⊥) → list_written b subject v l ≡ l
  pub schedule : write_refusal b subject v l ≡ 0 → ScheduleFor p (calls_by_value hs) (decoding b) (value_in p subject) v (points_in (list_written b subject v l) (decoding b).days)

-- and a value is taken exactly where it is within the present range
pub record WritingInBytes : Type 0 where
  pub list : (p : Profile) (hs : List ByteCutCall) (b : List ℕ) → CameFrom p hs b → (subject : Subject) (v : ℤ) (l : List ℕ) → Written p hs b subject v l
  pub day-ranged : (b : List ℕ) → is_session b ≡ true → (i : ℕ) (v : ℤ) (l : List ℕ)
      → Ranged (write_refusal b (Day i) v l) ((length l ≡ (decoding b).days * 2) × (i < (decoding b).days) × ((decoding b).spent ≡ false)) (floor_on (decoding b) i) v (ceiling_on (decoding b) i)
  pub sum-ranged : (b : List ℕ) → is_session b ≡ true → (v : ℤ) (l : List ℕ)
      → Ranged (write_refusal b Total v l) ((length l ≡ (decoding b).days * 2) × ((decoding b).spent ≡ false)) (total_floor (decoding b)) v (total_ceiling (decoding b))

-- ---- inspecting

-- what inspecting answers for the setpoints that a list holds; and "kept" is said exactly for the schedules of the profile that keep every valid cut,
-- by an unspent session
pub record InspectionInBytes : Type 0 where
  pub wrong_length : (b l : List ℕ) → (is_session b && is_long l (decoding b).days) ≡ false → inspected_over b l ≡ refused 2
  pub answer : (b l : List ℕ) → is_session b ≡ true → is_long l (decoding b).days ≡ true → Inspects (decoding b) (points_in l (decoding b).days) (inspected_over b l)
  pub exactly : (p : Profile) (hs : List ByteCutCall) (b : List ℕ) → CameFrom p hs b → (l : List ℕ)
      → (inspected_over b l ≡ kept) ↔ (length l ≡ p.days * 2) × ((decoding b).spent ≡ false) × Kept p (calls_by_value hs) (points_in l p.days)
