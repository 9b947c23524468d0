-- What `tighten` takes, as one box: the arrays, and the numbers beside them; and what it leaves.
use Rattle.std.specs.Prelude.{true, false, List, Option, None, Some, ℕ}
use Rattle.theory_method.specs.Filter.{Box, box, Tight}
use Rattle.base_codes.specs.declared.CodedNumbers.{CodedNumbers}
use Rattle.base_codes.specs.declared.TotalRange.{TotalRange}

abbrev pub boxed : List ℕ → List ℕ → List ℕ → CodedNumbers → Box
boxed fs cs rs m = box fs cs rs m.days m.first m.lowest m.highest

-- its answer with the arrays that it leaves
abbrev pub tight_as : Option TotalRange → List ℕ → List ℕ → Tight
tight_as (Some t) fs cs = record { found = true; floors = fs; ceilings = cs; lowest = t.lowest; highest = t.highest }
tight_as None fs cs = record { found = false; floors = fs; ceilings = cs; lowest = 0; highest = 0 }
