-- A cut by stages, as the code takes them. A reader may pass this page over: the contracts of `cut` and `cut_numbered` do not cite it.
use Rattle.std.specs.Prelude.{◌≡◌, Bool, true, false, Option, None, Some, Result, Ok, Err, ℕ, ◌≤◌, ◌<◌, ℤ, eqb, ltb}
use Rattle.limits.specs.Limits.{most_days, lowest_point, highest_point, lowest_total, highest_total, highest_level}
use Rattle.base_codes.specs.Code.{code, coded}
use Rattle.session_cuts.specs.declared.Cut.{Cut}
use Rattle.session_cuts.specs.declared.Cut.TheVariants.{DayFloor, DayCeiling, TotalFloor, TotalCeiling}
use Rattle.refusals.specs.declared.Refusal.{Refusal}
use Rattle.refusals.specs.Number.{refusal_number}

-- the number of the refusal that a cut has by itself, and beside 0 its value as it is held
pub record Checked : Type 0 where
  pub refusal : ℕ
  pub value : ℕ

abbrev pub checked_as : Result ℕ Refusal → Checked
checked_as (Ok value) = record { refusal = 0; value = value }
checked_as (Err refusal) = record { refusal = refusal_number refusal; value = 0 }

-- `otherwise` for a day that the cut can't have, then `outside`; beside no refusal the value's code
unfoldable pub checked_value : Bool → ℕ → Option ℕ → ℕ → Checked
checked_value true otherwise (Some value) outside = record { refusal = 0; value = value }
checked_value true otherwise None outside = record { refusal = outside; value = 0 }
checked_value false otherwise value outside = record { refusal = otherwise; value = 0 }

unfoldable pub checked_cut : ℕ → Cut → Checked
checked_cut n (DayFloor day value) = checked_value (ltb day n) 7 (coded lowest_point highest_point value) 3
checked_cut n (DayCeiling day value) = checked_value (ltb day n) 7 (coded lowest_point highest_point value) 3
checked_cut n (TotalFloor day value) = checked_value (eqb day 0) 12 (coded lowest_total highest_total value) 5
checked_cut n (TotalCeiling day value) = checked_value (eqb day 0) 12 (coded lowest_total highest_total value) 5

-- v is a day cut's value as a level, and the arrays have that day
abbrev pub DayClips : ℕ → ℤ → ℕ → Type 0
DayClips day value v = (day < most_days) × (v ≡ code lowest_point value) × (v ≤ highest_level)

-- what clipping asks of a cut, with its value as it is held
abbrev pub Clips : Cut → ℕ → Type 0
Clips (DayFloor day value) v = DayClips day value v
Clips (DayCeiling day value) v = DayClips day value v
Clips (TotalFloor day value) v = v ≡ code lowest_total value
Clips (TotalCeiling day value) v = v ≡ code lowest_total value
