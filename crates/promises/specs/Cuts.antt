-- Document 01: which cuts are valid, what keeps one, and whole lists of cuts.
use Rattle.std.specs.Prelude.{◌≡◌, ℕ, ◌≤◌, ◌<◌, ℤ, ◌≤ℤ◌, Option, Some}
use mathlib.Core.List.{List, [], ◌∷◌, Memᴰ}
use Rattle.limits.specs.Limits.{lowest_point, highest_point, lowest_total, highest_total}
use Rattle.base_codes.specs.Code.{on}
use Rattle.session.specs.Profile.{Profile, Schedule, total}
use Rattle.session.specs.Showing.{floor_on, ceiling_on, total_floor, total_ceiling}
use Rattle.session.specs.declared.Session.{Session}
use Rattle.session_cuts.specs.declared.Cut.{Cut}
use Rattle.session_cuts.specs.declared.Cut.TheVariants.{DayFloor, DayCeiling, TotalFloor, TotalCeiling}
use Rattle.session_cutting.specs.Cutting.{after_numbered}

-- A cut is well-formed (document 01) if its day is in the profile, for the day kinds, or 0, for the total kinds, and its value within bounds
abbrev pub WellFormed : Profile → Cut → Type 0
WellFormed p (DayFloor day value) = (day < p.days) × (lowest_point ≤ℤ value) × (value ≤ℤ highest_point)
WellFormed p (DayCeiling day value) = (day < p.days) × (lowest_point ≤ℤ value) × (value ≤ℤ highest_point)
WellFormed p (TotalFloor day value) = (day ≡ 0) × (lowest_total ≤ℤ value) × (value ≤ℤ highest_total)
WellFormed p (TotalCeiling day value) = (day ≡ 0) × (lowest_total ≤ℤ value) × (value ≤ℤ highest_total)

-- A schedule keeps a floor cut (document 01) if its setpoint on that day, or its total, is at least the value, a ceiling cut if it is at most the value
abbrev pub Keeps : Profile → Cut → List ℤ → Type 0
Keeps p (DayFloor day value) x = value ≤ℤ on x day
Keeps p (DayCeiling day value) x = on x day ≤ℤ value
Keeps p (TotalFloor day value) x = value ≤ℤ total p.first x
Keeps p (TotalCeiling day value) x = total p.first x ≤ℤ value

-- A cut is looser than the present range (document 01) if every value of the range keeps it
abbrev pub Looser : Session → Cut → Type 0
Looser s (DayFloor day value) = value ≤ℤ floor_on s day
Looser s (DayCeiling day value) = ceiling_on s day ≤ℤ value
Looser s (TotalFloor day value) = value ≤ℤ total_floor s
Looser s (TotalCeiling day value) = total_ceiling s ≤ℤ value

-- a cut as it is handed over: its kind may be unknown, and the list lent for changed days is `room` long
pub record CutCall : Type 0 where
  pub cut : Option Cut
  pub room : ℕ

-- A cut is valid (document 01) if it is well-formed and the list lent for changed days is at least n long
pub record Valid (p : Profile) (h : CutCall) (c : Cut) : Type 0 where
  pub known : h.cut ≡ Some c
  pub formed : WellFormed p c
  pub roomy : p.days ≤ h.room

-- c is a valid cut of the list
pub record ValidIn (p : Profile) (hs : List CutCall) (c : Cut) : Type 0 where
  pub handed : CutCall
  pub member : Memᴰ handed hs
  pub valid : Valid p handed c

-- a schedule of the profile that keeps every valid cut of the list
pub record Kept (p : Profile) (hs : List CutCall) (x : List ℤ) : Type 0 where
  pub schedule : Schedule p x
  pub keeps : (c : Cut) → ValidIn p hs c → Keeps p c x

-- the session after a whole list of cuts, one after another, refused ones included
abbrev pub after : Session → List CutCall → Session
after s [] = s
after s (h ∷ hs) = after (after_numbered s h.cut h.room).session hs
