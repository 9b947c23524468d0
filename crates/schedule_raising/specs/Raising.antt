-- Floors raised to a total, in levels, from the last day on. Which schedule this makes need not be believed: that it is one is `Writing` of promises.
use Rattle.std.specs.Prelude.{cond, List, ltb, ℕ, zero, suc, ◌+◌, ◌-◌, min, max}
use Rattle.limits.specs.Limits.{rise_offset, free_level}
use Rattle.theory_lists.specs.Sum.{at}
use Rattle.theory_method.specs.Filter.{held}
use Rattle.schedule_raising.specs.declared.Raised.{Raised}

-- a day's level where `next` has the following day's and what the sum still lacks: as far above the floor as the sum, the ceiling and the rise
-- to the following day allow; and what the sum lacks then
unfoldable pub raised_day : ℕ → ℕ → ℕ → Raised → Raised
raised_day floor ceiling rise next =
    let level : ℕ = max floor (min (floor + next.rest) (min ceiling (next.level + rise_offset - rise))) in
    record { level = level; rest = floor + next.rest - level }

-- the m-th day from the end; past the last day stands a level that limits none
unfoldable pub raised_from : List ℕ → List ℕ → List ℕ → ℕ → ℕ → ℕ → Raised
raised_from fs cs rs n rest zero = record { level = free_level; rest = rest }
raised_from fs cs rs n rest (suc m) = raised_day (at fs (n - suc m)) (at cs (n - suc m)) (at rs (n - suc m)) (raised_from fs cs rs n rest m)

-- the level of day k, where the floors of the counted days are raised until the held total is t; a day before them stays at its floor
abbrev pub raised_to : List ℕ → List ℕ → List ℕ → ℕ → ℕ → ℕ → ℕ → ℕ
raised_to fs cs rs n first t k = cond (ltb k first) (at fs k) (raised_from fs cs rs n (t - held n first (at fs)) (n - k)).level
