-- What each stage of filtering hands to the next: floors below ceilings, both in bounds, and floors or ceilings that obey the least rises.
use Prim.Native.Nat.{ℕ, ◌+◌, ◌-◌, ◌≤◌, ◌<◌}
use Rattle.std.specs.Prelude.{◌≡◌, List, length}
use Rattle.limits.specs.Limits.{most_days, highest_level, rise_offset, highest_rise_code}
use Rattle.theory_lists.specs.Sum.{at}
use Rattle.theory_lists.specs.Written.{written}
use Rattle.theory_method.specs.Filter.{mirrored, reversed, zeros}

-- levels that obey the least rises
abbrev pub Rising : List ℕ → List ℕ → ℕ → Type 0
Rising l rs n = (k : ℕ) → k + 1 < n → at l k + at rs k ≤ at l (k + 1) + rise_offset

-- what the pass over the ceilings asks: floors below ceilings, and carried
pub record Ready (fs cs rs : List ℕ) (n : ℕ) : Type 0 where
  pub some : 0 < n
  pub most : n ≤ most_days
  pub floors : length fs ≡ most_days
  pub ceilings : length cs ≡ most_days
  pub rises : length rs ≡ most_days
  pub fits : (k : ℕ) → k < n → at fs k ≤ at cs k
  pub ceiling : (k : ℕ) → k < n → at cs k ≤ highest_level
  pub rise : (k : ℕ) → k < n → at rs k ≤ highest_rise_code
  pub rising : Rising fs rs n

-- ---- carrying

-- r is the first of n days at which a is above b, or n
pub record Crossing (a b : ℕ → ℕ) (n r : ℕ) : Type 0 where
  pub most : r ≤ n
  pub before : (k : ℕ) → k < r → a k ≤ b k
  pub here : r < n → b r < a r

-- ---- the mirror

abbrev pub mirrored_all : List ℕ → ℕ → List ℕ
mirrored_all l n = written (mirrored l n) n zeros

abbrev pub reversed_all : List ℕ → ℕ → List ℕ
reversed_all rs n = written (reversed rs n) (n - 1) zeros
