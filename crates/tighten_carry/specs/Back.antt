-- Levels carried back: each at most the one after less the rise between them, or 0 where that is below the scale.
use Rattle.std.specs.Prelude.{ℕ, zero, suc, ◌+◌, ◌-◌, min, List}
use Rattle.limits.specs.Limits.{rise_offset}
use Rattle.theory_lists.specs.Sum.{at}

-- from day n, the m-th day before it
unfoldable pub back_from : List ℕ → List ℕ → ℕ → ℕ → ℕ
back_from l rs n zero = at l n
back_from l rs n (suc m) = min (at l (n - suc m)) (back_from l rs n m + rise_offset - at rs (n - suc m))

-- day k
abbrev pub carried_back : List ℕ → List ℕ → ℕ → ℕ → ℕ
carried_back l rs n k = back_from l rs n (n - k)
