-- Document 01: the four kinds of cut, by number.
use Rattle.std.specs.Prelude.{cond, ℕ, ℤ, eqb, Option, None, Some}
use Rattle.session_cuts.specs.declared.Cut.{Cut}
use Rattle.session_cuts.specs.declared.Cut.TheVariants.{DayFloor, DayCeiling, TotalFloor, TotalCeiling}

-- none for an unknown kind
unfoldable pub numbered : ℕ → ℕ → ℤ → Option Cut
numbered kind day value =
    cond (eqb kind 0) (Some (DayFloor day value))
    (cond (eqb kind 1) (Some (DayCeiling day value))
    (cond (eqb kind 2) (Some (TotalFloor day value))
    (cond (eqb kind 3) (Some (TotalCeiling day value)) None)))
