-- Document 01, "Schedules out and in", as statements.
use Rattle.std.specs.Prelude.{◌≡◌, true, false, ◌↔◌, List, ℕ, ◌+◌, ◌-◌, ◌<◌, ℤ, ◌+ℤ◌, length, ◌≤ℤ◌}
use Rattle.theory_lists.specs.ListOf.{list_of}
use Rattle.base_codes.specs.Code.{on}
use Rattle.session.specs.Profile.{Profile, Schedule, total}
use Rattle.session.specs.Showing.{floor_on, ceiling_on, rise_on, total_floor, total_ceiling}
use Rattle.session.specs.Opening.{numbers_with, opened, profile}
use Rattle.session.specs.declared.Numbers.{Numbers}
use Rattle.session.specs.declared.Session.{Session}
use Rattle.schedule_writing.specs.Writing.{day_write_refusal, total_write_refusal, day_written, total_written}
use Rattle.schedule_inspection.specs.Inspecting.{Finding, refused, kept, broken, inspected}
use Rattle.promises.specs.Cuts.{CutCall, Kept, after}

-- the profile that a session's present ranges and rises make: a schedule of the present ranges is one of this profile
abbrev pub present_profile : Session → Profile
present_profile s =
    let numbers : Numbers = numbers_with s.days s.first (total_floor s) (total_ceiling s) in
    profile numbers (list_of (floor_on s) s.days) (list_of (ceiling_on s) s.days) (list_of (rise_on s) (s.days - 1))

-- for an unspent session after any list of cuts these are the schedules of its profile that keep every valid cut
abbrev pub PresentSchedules : Type 0
PresentSchedules =
    (p : Profile) → (opened p).refusal ≡ 0 → (hs : List CutCall) (s : Session) → s ≡ after (opened p).session hs → s.spent ≡ false
    → (x : List ℤ) → Schedule (present_profile s) x ↔ Kept p hs x

-- ---- inspecting

-- the rules, each by the session's present ranges
abbrev pub DayKept : Session → List ℤ → ℕ → Type 0
DayKept s x i = (floor_on s i ≤ℤ on x i) × (on x i ≤ℤ ceiling_on s i)

abbrev pub RiseKept : Session → List ℤ → ℕ → Type 0
RiseKept s x i = (on x i +ℤ rise_on s i) ≤ℤ on x (i + 1)

abbrev pub TotalKept : Session → List ℤ → Type 0
TotalKept s x = (total_floor s ≤ℤ total s.first x) × (total s.first x ≤ℤ total_ceiling s)

-- what each answer says: the first broken rule, days in order, then rises in order, then the total
pub data Inspects (s : Session) (x : List ℤ) (f : Finding) : Type 0 where
  wrong_length : f ≡ refused 2 → (length x ≡ s.days → ⊥) → Inspects s x f
  spent : f ≡ refused 9 → length x ≡ s.days → s.spent ≡ true → Inspects s x f
  day : (i : ℕ) → f ≡ broken 1 i → length x ≡ s.days → s.spent ≡ false → i < s.days → (DayKept s x i → ⊥) → ((j : ℕ) → j < i → DayKept s x j) → Inspects s x f
  rise : (i : ℕ) → f ≡ broken 2 i → length x ≡ s.days → s.spent ≡ false → i + 1 < s.days → (RiseKept s x i → ⊥)
      → ((j : ℕ) → j < s.days → DayKept s x j) → ((j : ℕ) → j < i → RiseKept s x j) → Inspects s x f
  sum : f ≡ broken 3 0 → length x ≡ s.days → s.spent ≡ false → (TotalKept s x → ⊥)
      → ((j : ℕ) → j < s.days → DayKept s x j) → ((j : ℕ) → j + 1 < s.days → RiseKept s x j) → Inspects s x f
  all-kept : f ≡ kept → s.spent ≡ false → Schedule (present_profile s) x → Inspects s x f

-- for whatever session and list; and "kept" is said exactly for the schedules of the present ranges
pub record Inspection : Type 0 where
  pub answer : (s : Session) (x : List ℤ) → Inspects s x (inspected s x)
  pub exactly : (s : Session) (x : List ℤ) → (inspected s x ≡ kept) ↔ (s.spent ≡ false) × Schedule (present_profile s) x

-- ---- writing

-- x is a schedule of the session's present ranges, one of the profile that keeps every valid cut, has the value, where f is the day's setpoint or the
-- total, and passes inspection
pub record ScheduleFor (p : Profile) (hs : List CutCall) (s : Session) (f : List ℤ → ℤ) (value : ℤ) (x : List ℤ) : Type 0 where
  pub present : Schedule (present_profile s) x
  pub cuts : Kept p hs x
  pub valued : f x ≡ value
  pub passes : inspected s x ≡ kept

-- what writing makes of a lent list l: a refusal leaves it
pub record Writes (p : Profile) (hs : List CutCall) (s : Session) (f : List ℤ → ℤ) (value : ℤ) (refusal : ℕ) (l x : List ℤ) : Type 0 where
  pub left : (refusal ≡ 0 → ⊥) → x ≡ l
  pub schedule : refusal ≡ 0 → ScheduleFor p hs s f value x

-- a value is refused with 10 exactly where no check before applies and it is outside the range, and taken exactly where it is within
pub record Ranged (refusal : ℕ) (Before : Type 0) (low value high : ℤ) : Type 0 where
  pub ten : (refusal ≡ 10) ↔ Before × ((low ≤ℤ value) × (value ≤ℤ high) → ⊥)
  pub taken : (refusal ≡ 0) ↔ Before × (low ≤ℤ value) × (value ≤ℤ high)

-- for the session after any list of cuts
pub record Writing : Type 0 where
  pub day : (p : Profile) → (opened p).refusal ≡ 0 → (hs : List CutCall) (s : Session) → s ≡ after (opened p).session hs → (i : ℕ) (v : ℤ) (l : List ℤ)
      → Writes p hs s (λ x. on x i) v (day_write_refusal s i v (length l)) l (day_written s i v l)
  pub sum : (p : Profile) → (opened p).refusal ≡ 0 → (hs : List CutCall) (s : Session) → s ≡ after (opened p).session hs → (v : ℤ) (l : List ℤ)
      → Writes p hs s (total p.first) v (total_write_refusal s v (length l)) l (total_written s v l)
  pub day-ranged : (s : Session) (i : ℕ) (v : ℤ) (room : ℕ)
      → Ranged (day_write_refusal s i v room) ((room ≡ s.days) × (i < s.days) × (s.spent ≡ false)) (floor_on s i) v (ceiling_on s i)
  pub sum-ranged : (s : Session) (v : ℤ) (room : ℕ)
      → Ranged (total_write_refusal s v room) ((room ≡ s.days) × (s.spent ≡ false)) (total_floor s) v (total_ceiling s)
