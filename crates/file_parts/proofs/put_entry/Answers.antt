-- `put_entry` meets its contract: the fields that are stored are those of the kind that the match found, four times alike.
use mathlib.Core.Path.{ap}
use native.Mathlib.Omega.{arith}
use Rattle.session_cuts.specs.Sheet.{day_of}
use Rattle.file_format.specs.Format.{cut_bytes}
use borrow.Author.Rules.{rules}
use Rattle.file_parts.proofs.put_entry.Goals as goal

pub put_fields-requires : goal.put_fields-requires
put_fields-requires c = let e = ap day_of c.in-DayFloor.is in (omega arith, search rules)

pub put_fields-requires-in-DayCeiling : goal.put_fields-requires-in-DayCeiling
put_fields-requires-in-DayCeiling c = let e = ap day_of c.in-DayCeiling.is in (omega arith, search rules)

pub put_fields-requires-in-TotalFloor : goal.put_fields-requires-in-TotalFloor
put_fields-requires-in-TotalFloor c = let e = ap day_of c.in-TotalFloor.is in (omega arith, search rules)

pub put_fields-requires-in-TotalCeiling : goal.put_fields-requires-in-TotalCeiling
put_fields-requires-in-TotalCeiling c = let e = ap day_of c.in-TotalCeiling.is in (omega arith, search rules)

pub returns-in-DayFloor : goal.returns-in-DayFloor
unfolding cut_bytes
returns-in-DayFloor c =
    rw c.in-DayFloor.is (search rules)

pub returns-in-DayCeiling : goal.returns-in-DayCeiling
unfolding cut_bytes
returns-in-DayCeiling c =
    rw c.in-DayCeiling.is (search rules)

pub returns-in-TotalFloor : goal.returns-in-TotalFloor
unfolding cut_bytes
returns-in-TotalFloor c =
    rw c.in-TotalFloor.is (search rules)

pub returns-in-TotalCeiling : goal.returns-in-TotalCeiling
unfolding cut_bytes
returns-in-TotalCeiling c =
    rw c.in-TotalCeiling.is (search rules)
