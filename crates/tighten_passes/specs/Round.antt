-- One round of lowering day i's ceiling v, as document 01 has it, over the shifted floors a of n days, of which those of w count.
use Rattle.std.specs.Prelude.{ℕ, zero, suc, ◌+◌, ◌-◌, ◌/◌, min, max, Bool, cond, ltb}
use Rattle.theory_method.specs.Counted.{run_sum, count_in}

-- of the m days from day i on, the number of those up to the last that is below v, or 0
unfoldable pub below : (ℕ → ℕ) → ℕ → ℕ → ℕ → ℕ
below a i v zero = zero
below a i v (suc m) = cond (ltb (a (i + m)) v) (suc m) (below a i v m)

-- the number of days from day i to *last*, the greatest later day that is below v, or i itself
abbrev pub window : (ℕ → ℕ) → ℕ → ℕ → ℕ → ℕ
window a n i v = max 1 (below a i v (n - i))

-- by how much v is above the floors of the counted days from day i on
abbrev pub over : (ℕ → Bool) → (ℕ → ℕ) → ℕ → ℕ → ℕ → ℕ
over w a n i v = run_sum w (λ k. v - a k) i (n - i)

-- the smaller of excess / count, rounded up, and room
abbrev pub step : ℕ → ℕ → ℕ → ℕ
step excess count room = min ((excess + count - 1) / count) room

-- v after a round: *last* is found among all days, and the divisor is the number of those that count
unfoldable pub rounded : (ℕ → Bool) → (ℕ → ℕ) → ℕ → ℕ → ℕ → ℕ → ℕ
rounded w a n i margin v =
    let days : ℕ = window a n i v in
    v - step (over w a n i v - margin) (count_in w i days) (v - a (i + days - 1))
