-- The cuts of a sheet, and a cut by its numbers.
use Rattle.std.specs.Prelude.{List, ℕ, ℤ, pos, get_or}
use Rattle.theory_lists.specs.ListOf.{list_of}
use Rattle.session_cuts.specs.declared.Cut.{Cut}
use Rattle.session_cuts.specs.declared.Cut.TheVariants.{DayFloor, DayCeiling, TotalFloor, TotalCeiling}
use Rattle.session_cuts.specs.declared.Entry.{Entry}
use Rattle.session_cuts.specs.declared.Sheet.{Sheet}

-- what stands past a sheet's cuts
abbrev pub blank : Entry
blank = record { cut = DayFloor 0 (pos 0) }

abbrev pub cut_on : List Cut → ℕ → Cut
cut_on cs j = get_or cs j (DayFloor 0 (pos 0))

unfoldable pub cuts_of : Sheet → List Cut
cuts_of s = list_of (λ j. (get_or s.entries j blank).cut) s.count

-- document 01's kinds by number
abbrev pub kind_of : Cut → ℕ
kind_of (DayFloor day value) = 0
kind_of (DayCeiling day value) = 1
kind_of (TotalFloor day value) = 2
kind_of (TotalCeiling day value) = 3

abbrev pub day_of : Cut → ℕ
day_of (DayFloor day value) = day
day_of (DayCeiling day value) = day
day_of (TotalFloor day value) = day
day_of (TotalCeiling day value) = day

abbrev pub value_of : Cut → ℤ
value_of (DayFloor day value) = value
value_of (DayCeiling day value) = value
value_of (TotalFloor day value) = value
value_of (TotalCeiling day value) = value
