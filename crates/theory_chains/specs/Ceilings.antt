-- The ceilings that a total's ceiling allows: for each day the greatest level that some chain over the floors takes with its total within.
use Rattle.std.specs.Prelude.{◌≡◌, Bool, ℕ, zero, suc, ◌+◌, ◌-◌, ◌≤◌, ◌<◌, max}
use Rattle.std.proofs.Common.{le_refl, arith}
use Rattle.std.proofs.Math.Decide.{dec_le, ℕ_discrete}
use Rattle.theory_chains.specs.Sum.{sum, sum_le}
use Rattle.theory_chains.specs.Chain.{Chain, Below}
use Rattle.theory_chains.specs.Fit.{fit, Fitted, fitted}

-- the largest rise from day 0 to day k
abbrev pub reach : (ℕ → ℕ) → ℕ → ℕ
reach g zero = 0
reach g (suc k) = reach g k + g k

-- the least chain over the floors a that is at v on day i
abbrev pub through : (g a : ℕ → ℕ) (i v k : ℕ) → ℕ
through g a i v k = max (a k) (v - (reach g i - reach g k))

-- the total of the least chain over the floors that is at v on day i
abbrev pub cost : (w : ℕ → Bool) (n : ℕ) (g a : ℕ → ℕ) (i v : ℕ) → ℕ
cost w n g a i v = sum w n (through g a i v)

-- the greatest level of day i, up to its ceiling in b, whose least chain is within the total's ceiling
abbrev pub ceiling : (w : ℕ → Bool) (n : ℕ) (g a b : ℕ → ℕ) (U i : ℕ) → ℕ
ceiling w n g a b U i = fit (cost w n g a i) U (a i) (b i)

module _ (n : ℕ) (g : ℕ → ℕ) where
  pub through_chain : (a : ℕ → ℕ) → Chain n g a → (i v : ℕ) → Chain n g (through g a i v)
  through_chain a ca i v = record { up = λ k h. omega (arith, ca.up k h); near = λ k h. omega (arith, ca.near k h) }

  pub through-above : (a : ℕ → ℕ) (i v : ℕ) → Below n a (through g a i v)
  through-above a i v k h = omega arith

  pub through_at : (a : ℕ → ℕ) (i v : ℕ) → a i ≤ v → through g a i v i ≡ v
  through_at a i v h = omega arith

  module _ (y : ℕ → ℕ) (cy : Chain n g y) where
    -- from one day to a later one
    pub chain_up : (k m : ℕ) → k ≤ m → m < n → y k ≤ y m
    chain_up k zero l h = rw (to_zero l) (le_refl (y zero))
      where
        to_zero : k ≤ zero → k ≡ zero
        to_zero l = omega arith
    chain_up k (suc m) l h = go (ℕ_discrete k (suc m)) (chain_up k m)
      where
        go : Dec (k ≡ suc m) → (k ≤ m → m < n → y k ≤ y m) → y k ≤ y (suc m)
        go (yes e) before = rw e (le_refl (y (suc m)))
        go (no e) before = omega (arith, before (omega arith) (omega arith), cy.up m h)

    reach_up : (k m : ℕ) → k ≤ m → reach g k ≤ reach g m
    reach_up k zero l = rw (to_zero l) (le_refl 0)
      where
        to_zero : k ≤ zero → k ≡ zero
        to_zero l = omega arith
    reach_up k (suc m) l = go (ℕ_discrete k (suc m)) (reach_up k m)
      where
        go : Dec (k ≡ suc m) → (k ≤ m → reach g k ≤ reach g m) → reach g k ≤ reach g (suc m)
        go (yes e) before = rw e (le_refl (reach g (suc m)))
        go (no e) before = omega (arith, before (omega arith))

    chain-near : (k m : ℕ) → k ≤ m → m < n → y m + reach g k ≤ y k + reach g m
    chain-near k zero l h = rw (to_zero l) (le_refl (y zero + 0))
      where
        to_zero : k ≤ zero → k ≡ zero
        to_zero l = omega arith
    chain-near k (suc m) l h = go (ℕ_discrete k (suc m)) (chain-near k m)
      where
        go : Dec (k ≡ suc m) → (k ≤ m → m < n → y m + reach g k ≤ y k + reach g m) → y (suc m) + reach g k ≤ y k + reach g (suc m)
        go (yes e) before = rw e (le_refl (y (suc m) + reach g (suc m)))
        go (no e) before = omega (arith, before (omega arith) (omega arith), cy.near m h)

    -- `through` is the least such chain
    pub through-least : (a : ℕ → ℕ) → Below n a y → (i v : ℕ) → i < n → v ≤ y i → Below n (through g a i v) y
    through-least a ay i v h l k u = go (dec_le i k)
      where
        go : Dec (i ≤ k) → through g a i v k ≤ y k
        go (yes m) = omega (arith, chain_up i k m u, ay k u)
        go (no m) = omega (arith, chain-near k i (omega arith) h, ay k u, reach_up k i (omega arith))

  -- a higher level on day i takes no less on any day
  pub through_mono : (a : ℕ → ℕ) (i u v : ℕ) → u ≤ v → Below n (through g a i u) (through g a i v)
  through_mono a i u v l k h = omega arith

  module _ (w : ℕ → Bool) (a b : ℕ → ℕ) (ca : Chain n g a) (cb : Chain n g b) (ab : Below n a b) (U : ℕ) (room : sum w n a ≤ U) where
    abbrev ceil : ℕ → ℕ
    ceil = ceiling w n g a b U

    cost_start : (i : ℕ) → i < n → cost w n g a i (a i) ≤ U
    cost_start i h = omega (arith, sum_le w n (through g a i (a i)) a (through-least a ca a (λ k l. le_refl (a k)) i (a i) h (le_refl (a i))))

    pub best : (i : ℕ) → i < n → Fitted (cost w n g a i) U (a i) (b i) (ceil i)
    best i h = fitted (cost w n g a i) U (a i) (cost_start i h) (b i) (ab i h)

    -- no chain within the total goes above the ceilings
    pub ceiling-bounds : (y : ℕ → ℕ) → Chain n g y → Below n a y → Below n y b → sum w n y ≤ U → Below n y ceil
    ceiling-bounds y cy ay yb t i h = go (dec_le (y i) (ceil i))
      where
        go : Dec (y i ≤ ceil i) → y i ≤ ceil i
        go (yes l) = l
        go (no l) = absurd (omega (arith, (best i h).past (y i) (omega arith) (yb i h), sum_le w n (through g a i (y i)) y (through-least y cy a ay i (y i) h (le_refl (y i)))))

    -- each level from the floor to the ceiling is taken by a chain within the total
    pub ceiling-taken : (i v : ℕ) → i < n → v ≤ ceil i → cost w n g a i v ≤ U
    ceiling-taken i v h l = omega (arith, (best i h).within, sum_le w n (through g a i v) (through g a i (ceil i)) (through_mono a i v (ceil i) l))

    pub ceiling-chain : Chain n g ceil
    ceiling-chain = record { up = ups; near = nears }
      where
        -- the chain that takes day i's ceiling stays below every ceiling
        under : (i : ℕ) → i < n → Below n (through g a i (ceil i)) ceil
        under i h = ceiling-bounds (through g a i (ceil i)) (through_chain a ca i (ceil i))
            (λ k l. omega arith)
            (through-least b cb a ab i (ceil i) h (best i h).most)
            (best i h).within

        ups : (k : ℕ) → suc k < n → ceil k ≤ ceil (suc k)
        ups k h = omega (arith, under k (omega arith) (suc k) h)

        nears : (k : ℕ) → suc k < n → ceil (suc k) ≤ ceil k + g k
        nears k h = omega (arith, under (suc k) h k (omega arith))
