-- Over C a list is a byte string of 2-byte little-endian elements, as in the file: points and rises signed, days unsigned.
use Rattle.std.specs.Prelude.{Bool, cond, List, ℕ, ◌*◌, ℤ, eqb, ltb, length}
use Rattle.limits.specs.Limits.{lowest_point, highest_point}
use Rattle.theory_lists.specs.ListOf.{list_of}
use Rattle.theory_lists.specs.Some.{some}
use Rattle.theory_lists.specs.Rows.{rows}
use Rattle.theory_lists.specs.Front.{in_front}
use Rattle.base_codes.specs.Code.{code_or_zero}
use Rattle.base_little_endian.specs.Fields.{i16_at, u16_bytes, i16_bytes}

-- n long: exactly 2n bytes
abbrev pub is_long : List ℕ → ℕ → Bool
is_long b n = eqb (length b) (n * 2)

abbrev pub point_at : List ℕ → ℕ → ℤ
point_at b k = i16_at b (k * 2)

-- the first n points of a list
unfoldable pub points_in : List ℕ → ℕ → List ℤ
points_in b n = list_of (point_at b) n

-- the level of a point, 0 where it is outside its bounds
abbrev pub level_at : List ℕ → ℕ → ℕ
level_at b k = code_or_zero lowest_point highest_point (point_at b k)

-- by these levels the floor of one of the first n days is above its ceiling
unfoldable pub levels_crossed : List ℕ → List ℕ → ℕ → Bool
levels_crossed fs cs n = some (λ k. ltb (level_at cs k) (level_at fs k)) n

-- the bytes of n points, and of n unsigned numbers
unfoldable pub point_bytes : (ℕ → ℤ) → ℕ → List ℕ
point_bytes f n = rows (λ k. i16_bytes (f k)) n

unfoldable pub cell_bytes : (ℕ → ℕ) → ℕ → List ℕ
cell_bytes f n = rows (λ k. u16_bytes (f k)) n

-- a lent list by the refusal: as it was, or with n points at its front
unfoldable pub lent_points : ℕ → (ℕ → ℤ) → ℕ → List ℕ → List ℕ
lent_points refusal f n l = cond (eqb refusal 0) (in_front (point_bytes f n) l) l
