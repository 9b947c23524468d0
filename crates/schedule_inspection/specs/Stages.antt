-- Inspecting by stages, as the code takes them, over codes. A reader may pass this page over: the contract of `inspect` does not cite it.
-- A setpoint is held plus 32,768, so that every 16-bit number has a code; a level is a point plus 1,000, a rise code a rise plus 2,000.
use Rattle.std.specs.Prelude.{Bool, cond, ◌||◌, List, ℕ, ◌+◌, ◌-◌, ◌*◌, ltb, Option, None, Some}
use Rattle.limits.specs.Limits.{rise_offset, total_offset, setpoint_offset, level_to_setpoint}
use Rattle.theory_lists.specs.Sum.{at}
use Rattle.theory_lists.specs.First.{first_where}
use Rattle.theory_chains.specs.Sum.{sum}
use Rattle.theory_method.specs.Counted.{counted}
use Rattle.schedule_inspection.specs.Inspecting.{Finding, kept, broken}

-- x is outside the range from low to high
abbrev pub outside : ℕ → ℕ → ℕ → Bool
outside low high x = ltb x low || ltb high x

-- the setpoint of day k is outside the day's range
abbrev pub day_outside : List ℕ → List ℕ → List ℕ → ℕ → Bool
day_outside xs fs cs k = outside (at fs k + level_to_setpoint) (at cs k + level_to_setpoint) (at xs k)

-- the setpoint of day k + 1 is below the least that the rise from day k allows
abbrev pub fallen : List ℕ → List ℕ → ℕ → Bool
fallen xs rs k = ltb (at xs (k + 1) + rise_offset) (at xs k + at rs k)

-- the sum of the counted setpoints of n days is outside the total's range, which is held plus 512,000
abbrev pub total_outside : List ℕ → ℕ → ℕ → ℕ → ℕ → Bool
total_outside xs n first least most =
    outside (least + setpoint_offset * (n - first)) (most + setpoint_offset * (n - first)) (sum (counted first n) n (at xs) + total_offset)

-- the first k below n with t k
unfoldable pub first_found : (ℕ → Bool) → ℕ → Option ℕ
first_found t n = let k : ℕ = first_where t n in cond (ltb k n) (Some k) None

-- the first broken rule
unfoldable pub judged_codes : List ℕ → List ℕ → List ℕ → List ℕ → ℕ → ℕ → ℕ → ℕ → Finding
judged_codes xs fs cs rs n first least most =
    let day : ℕ = first_where (day_outside xs fs cs) n in
    let rise : ℕ = first_where (fallen xs rs) (n - 1) in
    cond (ltb day n) (broken 1 day)
    (cond (ltb rise (n - 1)) (broken 2 rise)
    (cond (total_outside xs n first least most) (broken 3 0) kept))
