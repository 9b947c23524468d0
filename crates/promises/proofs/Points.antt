-- What stands in byte lists that points were stored into.
use mathlib.Core.Path.{◌≡◌, refl}
use mathlib.Core.Bool.{Bool, true, false}
use mathlib.Core.List.{List, ◌++◌}
use Prim.Native.Nat.{ℕ, ◌+◌, ◌*◌, ◌≤◌, ◌<◌}
use native.Mathlib.Omega.{arith}
use lib.IntN.{ℤ}
use lib.Dec.{eqb}
use lib.ListN.{length, drop}
use borrow.Author.Tests.{eqb-true, eqb-false}
use mir.Syntax.{w16}
use mir.Val.{SFits}
use Rattle.limits.specs.Limits.{lowest_point}
use Rattle.theory_lists.specs.Sum.{at}
use Rattle.theory_lists.specs.Front.{in_front, front-past}
use Rattle.theory_lists.specs.ListOf.{list_of, list_of-same}
use Rattle.theory_lists.specs.Part.{Part, part_row, part_front}
use Rattle.theory_lists.specs.Rows.{length-rows}
use Rattle.base_codes.specs.Code.{decoded}
use Rattle.base_codes.proofs.Casts.{less_fits}
use Rattle.base_codes.proofs.Laws.{point_less, decoded_less}
use Rattle.base_little_endian.specs.Fields.{i16_bytes}
use Rattle.base_little_endian.proofs.Laws.{i16_length, i16_read}
use Rattle.c_lists.specs.Lists.{point_at, points_in, point_bytes, lent_points}
use Rattle.c_lists.proofs.Laws.{points_left, points_filled}

-- the point of a level fits 16 bits
pub point_fits : (n : ℕ) → n ≤ 5000 → SFits w16 (decoded lowest_point n)
point_fits n h = less_fits w16 (decoded lowest_point n) n 1000 (decoded_less lowest_point n 1000 point_less) (omega arith) (omega arith)

pub points_long : (f : ℕ → ℤ) (n : ℕ) → length (point_bytes f n) ≡ n * 2
unfolding point_bytes
points_long f n = length-rows (λ k. i16_bytes (f k)) 2 n (λ k h. i16_length (f k))

-- points that fit 16 bits, read from their bytes
module _ {l : List ℕ} (f : ℕ → ℤ) (n : ℕ) (fits : (k : ℕ) → k < n → SFits w16 (f k)) (p : Part l 0 (point_bytes f n)) where
  point_read : (k : ℕ) → k < n → point_at l k ≡ f k
  unfolding point_bytes
  point_read k h =
      let z : 0 + k * 2 ≡ k * 2 = omega arith in
      i16_read (f k) (fits k h) (rw z at (part_row (λ j. i16_bytes (f j)) 2 n (λ j u. i16_length (f j)) p k h))

  pub points_read : points_in l n ≡ list_of f n
  unfolding points_in
  points_read = list_of-same (point_at l) f n point_read

-- a lent list
module _ (refusal : ℕ) (f : ℕ → ℤ) (n : ℕ) (l : List ℕ) where
  filled_part : refusal ≡ 0 → Part (lent_points refusal f n l) 0 (point_bytes f n)
  filled_part z = rw (points_filled refusal f n l z) (part_front (point_bytes f n) l)

  pub lent_point : refusal ≡ 0 → ((k : ℕ) → k < n → SFits w16 (f k)) → (k : ℕ) → k < n → point_at (lent_points refusal f n l) k ≡ f k
  lent_point z fits k h = point_read f n fits (filled_part z) k h

  pub lent_points_lem : refusal ≡ 0 → ((k : ℕ) → k < n → SFits w16 (f k)) → points_in (lent_points refusal f n l) n ≡ list_of f n
  lent_points_lem z fits = points_read f n fits (filled_part z)

  pub lent-rest : (i : ℕ) → n * 2 ≤ i → at (lent_points refusal f n l) i ≡ at l i
  lent-rest i h = go (eqb refusal 0) refl
    where
      go : (b : Bool) → eqb refusal 0 ≡ b → at (lent_points refusal f n l) i ≡ at l i
      go true e = rw (points_filled refusal f n l (eqb-true refusal 0 e)) (front-past (point_bytes f n) l i 0 (omega (arith, points_long f n)))
      go false e = rw (points_left refusal f n l (eqb-false refusal 0 e)) refl
