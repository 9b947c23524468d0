-- The first tank's cost, as an overload over the floors, and what one round of lowering may do.
use Rattle.std.specs.Prelude.{◌≡◌, Bool, ℕ, zero, suc, ◌+◌, ◌-◌, ◌*◌, ◌≤◌, ◌<◌}
use Rattle.std.proofs.Math.Path.{refl}
use Rattle.std.proofs.Math.Bool.{true, false}
use Rattle.std.proofs.Common.{arith}
use Rattle.std.proofs.Math.Decide.{dec_le}
use Rattle.theory_chains.specs.Sum.{sum, weigh}
use Rattle.theory_chains.specs.Ceilings.{reach, through, cost}

-- more than any shifted level: a rise without a largest one
abbrev pub free : ℕ → ℕ
free k = 16777216

within : {A : Type 0} → Dec A → Bool → Bool
within (yes h) b = b
within (no h) b = false

-- the counted days from i on
pub from : ℕ → (ℕ → Bool) → ℕ → Bool
from i w k = within (dec_le i k) (w k)

module _ (w : ℕ → Bool) (i k v : ℕ) where
  pub weigh-from : i ≤ k → weigh (from i w k) v ≡ weigh (w k) v
  unfolding from within
  weigh-from h = go (dec_le i k)
    where
      go : (d : Dec (i ≤ k)) → weigh (within d (w k)) v ≡ weigh (w k) v
      go (yes l) = refl
      go (no l) = absurd (l h)

  pub weigh-before : k < i → weigh (from i w k) v ≡ 0
  unfolding from within
  weigh-before h = go (dec_le i k)
    where
      go : (d : Dec (i ≤ k)) → weigh (within d (w k)) v ≡ 0
      go (yes l) = absurd (omega arith)
      go (no l) = refl

-- the same of days that count alike
pub from-same : (i k : ℕ) (w u : ℕ → Bool) → w k ≡ u k → from i u k ≡ from i w k
unfolding from within
from-same i k w u e = rw e

-- what day i at v puts on the days from i on, over their floors
abbrev pub overload_from : (w : ℕ → Bool) (n : ℕ) (a : ℕ → ℕ) (i v : ℕ) → ℕ
overload_from w n a i v = sum (from i w) n (λ k. v - a k)

pub reach-free : (k : ℕ) → reach free k ≡ k * 16777216
reach-free zero = omega arith
reach-free (suc k) = omega (arith, reach-free k)

module _ (a : ℕ → ℕ) (w : ℕ → Bool) (i v : ℕ) (small : v ≤ 16777216) where
  one-day : (k : ℕ) → weigh (w k) (through free a i v k) ≡ weigh (w k) (a k) + weigh (from i w k) (v - a k)
  unfolding from within
  one-day k = go (dec_le i k) (w k)
    where
      go : (d : Dec (i ≤ k)) (b : Bool) → weigh b (through free a i v k) ≡ weigh b (a k) + weigh (within d b) (v - a k)
      go (yes h) true = omega (arith, reach-free i, reach-free k)
      go (yes h) false = refl
      go (no h) true = omega (arith, reach-free i, reach-free k)
      go (no h) false = refl

  -- the cost is the sum of the floors and the overload
  pub cost-overload : (n : ℕ) → cost w n free a i v ≡ sum w n a + overload_from w n a i v
  cost-overload zero = refl
  cost-overload (suc n) = omega (arith, cost-overload n, one-day n)

-- ---- one round

-- how many days count
abbrev pub count : (ℕ → Bool) → ℕ → ℕ
count w n = sum w n (λ _. 1)

weigh-slope : (b : Bool) (x y d : ℕ) → x ≤ y + d → weigh b x ≤ weigh b y + d * weigh b 1
weigh-slope true x y d h = omega arith
weigh-slope false x y d h = omega arith

-- lowering v by d takes at most d off each day that counts
pub slope : (w : ℕ → Bool) (n : ℕ) (a : ℕ → ℕ) (v d : ℕ) → sum w n (λ k. v - a k) ≤ sum w n (λ k. (v - d) - a k) + d * count w n
slope w zero a v d = omega arith
slope w (suc n) a v d = omega (arith, slope w n a v d, weigh-slope (w n) (v - a n) ((v - d) - a n) d (omega arith))
