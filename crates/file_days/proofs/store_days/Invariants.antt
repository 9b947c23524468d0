-- `store_days` meets its contract: k days' floors, ceilings and rises are stored, and the reader stands at the next day. After the loop the last day's
-- floor and ceiling are stored (`last_stored`).
use mathlib.Core.Path.{◌≡◌}
use Rattle.theory_lists.specs.Filled.{Filled}
use Rattle.file_format.specs.Format.{day_offset, floor_at, ceiling_at, rise_at}
use Rattle.file_days.proofs.store_days.Given as goal

abbrev pub invariant-loop-k : goal.invariant-loop-k
invariant-loop-k l =
    (l.reader.bytes ≡ l.initial.reader.bytes)
    × (l.reader.at ≡ day_offset l.k)
    × Filled (floor_at l.bytes) l.last l.k l.initial.floors l.floors
    × Filled (ceiling_at l.bytes) l.last l.k l.initial.ceilings l.ceilings
    × Filled (rise_at l.bytes) l.last l.k l.initial.rises l.rises
