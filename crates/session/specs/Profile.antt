-- Document 01: profiles, schedules, and the range of values that schedules take. A point is a hundredth of a degree, a signed whole number.
use Rattle.std.specs.Prelude.{◌≡◌, List, [], ◌∷◌, ℕ, ◌+◌, ◌<◌, ℤ, pos, ◌+ℤ◌, length, drop, ◌≤ℤ◌}
use Rattle.base_codes.specs.Code.{on}

-- A profile (document 01): days, the first counted day (request One), a floor and a ceiling in points for each, the least rise from each day to the next,
-- and the range of the total
pub record Profile : Type 0 where
  pub days : ℕ
  pub first : ℕ
  pub floors : List ℤ
  pub ceilings : List ℤ
  pub rises : List ℤ
  pub lowest : ℤ
  pub highest : ℤ

abbrev pub sum_of : List ℤ → ℤ
sum_of [] = pos 0
sum_of (x ∷ xs) = x +ℤ sum_of xs

-- The total (document 02, request One): the sum from the first counted day on
abbrev pub total : ℕ → List ℤ → ℤ
total first x = sum_of (drop first x)

-- A schedule (document 01): one setpoint for each day within that day's range, each setpoint at least the one before plus the rise between
-- them, the total within its range
pub record Schedule (p : Profile) (x : List ℤ) : Type 0 where
  pub whole : length x ≡ p.days
  pub floor : (i : ℕ) → i < p.days → on p.floors i ≤ℤ on x i
  pub ceiling : (i : ℕ) → i < p.days → on x i ≤ℤ on p.ceilings i
  pub rise : (i : ℕ) → i + 1 < p.days → (on x i +ℤ on p.rises i) ≤ℤ on x (i + 1)
  pub least : p.lowest ≤ℤ total p.first x
  pub most : total p.first x ≤ℤ p.highest

-- The values of f on the lists of S run exactly from lo to hi: none lies outside, and each number from lo to hi is one of them
pub record Spans (S : List ℤ → Type 0) (f : List ℤ → ℤ) (lo hi : ℤ) : Type 0 where
  pub some : lo ≤ℤ hi
  pub inside : (x : List ℤ) → S x → (lo ≤ℤ f x) × (f x ≤ℤ hi)
  pub taken : (v : ℤ) → lo ≤ℤ v → v ≤ℤ hi → (x : List ℤ) × S x × (f x ≡ v)
