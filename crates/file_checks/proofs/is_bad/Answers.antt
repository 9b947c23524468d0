-- `is_bad` meets its contract, by the match on what is told; where it is a cut of the total, by the two values that the matches found.
use mathlib.Core.Path.{refl}
use Rattle.file_checks.proofs.is_bad.Goals as goal

pub returns-in-TotalFloor : goal.returns-in-TotalFloor
returns-in-TotalFloor c = rw (c.in-Some.is, c.in-TotalFloor.is) refl

pub returns-in-TotalCeiling : goal.returns-in-TotalCeiling
returns-in-TotalCeiling c = rw (c.in-Some.is, c.in-TotalCeiling.is) refl
