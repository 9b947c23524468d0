-- Signed numbers within bounds as natural numbers: how far each is above its lowest bound (offset binary).
use Rattle.std.specs.Prelude.{Bool, true, cond, ◌&&◌, List, [], ◌∷◌, ℕ, ℤ, pos, nat_abs, ◌+ℤ◌, ◌-ℤ◌, get_or, Option, None, Some}
use Rattle.std.specs.Int.Signed.{le_z}

abbrev pub within : ℤ → ℤ → ℤ → Bool
within low high z = le_z low z && le_z z high

-- how far z is above low, and back
abbrev pub code : ℤ → ℤ → ℕ
code low z = nat_abs (z -ℤ low)

abbrev pub decoded : ℤ → ℕ → ℤ
decoded low n = low +ℤ pos n

-- what stands at an index of a list of integers
abbrev pub on : List ℤ → ℕ → ℤ
on l k = get_or l k (pos 0)

abbrev pub every : (ℤ → Bool) → List ℤ → Bool
every test [] = true
every test (z ∷ zs) = test z && every test zs

-- a number's code, none where it is outside
abbrev pub coded : ℤ → ℤ → ℤ → Option ℕ
coded low high z = cond (within low high z) (Some (code low z)) None

-- a number's code, or 0 where it is outside
abbrev pub code_or_zero : ℤ → ℤ → ℤ → ℕ
code_or_zero low high z = cond (within low high z) (code low z) 0
