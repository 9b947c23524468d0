-- The window of a level: how many days it has, that its last day is below the level, and that none past it is.
use Prim.Native.Nat.{ℕ, zero, suc, ◌+◌, ◌-◌, ◌≤◌, ◌<◌}
use mathlib.Core.Path.{◌≡◌, refl}
use mathlib.Core.Bool.{Bool, true, false, cond}
use native.Mathlib.Omega.{arith}
use native.Mathlib.Decide.{dec_lt}
use lib.Dec.{ltb}
use borrow.Author.Tests.{ltb-true, ltb-false}
use Rattle.theory_method.specs.Counted.{count_in}
use Rattle.tighten_passes.specs.Round.{below, window, over, step, rounded}

pub rounded_is : (w : ℕ → Bool) (a : ℕ → ℕ) (n i margin v : ℕ)
    → rounded w a n i margin v ≡ v - step (over w a n i v - margin) (count_in w i (window a n i v)) (v - a (i + window a n i v - 1))
unfolding rounded
rounded_is w a n i margin v = refl

module _ (a : ℕ → ℕ) (i v : ℕ) where
  pub below-most : (m : ℕ) → below a i v m ≤ m
  unfolding below
  below-most zero = omega arith
  below-most (suc m) = go (ltb (a (i + m)) v) (below-most m)
    where
      go : (t : Bool) → below a i v m ≤ m → cond t (suc m) (below a i v m) ≤ suc m
      go true h = omega arith
      go false h = omega arith

  -- where there is a last, it is below v
  pub below_last : (m : ℕ) → 0 < below a i v m → a (i + below a i v m - 1) < v
  unfolding below
  below_last zero h = absurd (omega arith)
  below_last (suc m) h = go (ltb (a (i + m)) v) (ltb-true (a (i + m)) v) (below_last m) h
    where
      go : (t : Bool) → (t ≡ true → a (i + m) < v) → (0 < below a i v m → a (i + below a i v m - 1) < v)
          → 0 < cond t (suc m) (below a i v m) → a (i + cond t (suc m) (below a i v m) - 1) < v
      go true h ih u = let e : i + suc m - 1 ≡ i + m = omega arith in rw e (h refl)
      go false h ih u = ih u

  -- and none past it is
  pub below-past : (m k : ℕ) → i + below a i v m ≤ k → k < i + m → v ≤ a k
  unfolding below
  below-past zero k h u = absurd (omega arith)
  below-past (suc m) k h u = go (ltb (a (i + m)) v) (ltb-false (a (i + m)) v) (below-past m k) h u
    where
      go : (t : Bool) → (t ≡ false → v ≤ a (i + m)) → (i + below a i v m ≤ k → k < i + m → v ≤ a k)
          → i + cond t (suc m) (below a i v m) ≤ k → k < i + suc m → v ≤ a k
      go true h ih l u = absurd (omega arith)
      go false h ih l u = pick (dec_lt k (i + m))
        where
          pick : Dec (k < i + m) → v ≤ a k
          pick (yes y) = ih l y
          pick (no y) = let e : k ≡ i + m = omega arith in rw e (h refl)

module _ (a : ℕ → ℕ) (n i v : ℕ) where
  pub window-inside : i < n → i + window a n i v ≤ n
  window-inside h = omega (arith, below-most a i v (n - i))

  pub window-under : 1 < window a n i v → a (i + window a n i v - 1) < v
  window-under h =
      let e : window a n i v ≡ below a i v (n - i) = omega arith in
      rw e (below_last a i v (n - i) (omega arith))

  pub window-past : (k : ℕ) → i + window a n i v ≤ k → k < n → v ≤ a k
  window-past k h u = below-past a i v (n - i) k (omega arith) (omega arith)

  -- there is one such number
  pub window_is : (c : ℕ) → 0 < c → i + c ≤ n → (1 < c → a (i + c - 1) < v) → ((k : ℕ) → i + c ≤ k → k < n → v ≤ a k) → c ≡ window a n i v
  window_is c some inside under past = go (dec_lt c (window a n i v)) (dec_lt (window a n i v) c)
    where
      go : Dec (c < window a n i v) → Dec (window a n i v < c) → c ≡ window a n i v
      go (yes l) d =
          absurd (omega (arith, window-under (omega arith), past (i + window a n i v - 1) (omega arith) (omega (arith, window-inside (omega arith)))))
      go (no l) (yes m) = absurd (omega (arith, under (omega arith), window-past (i + c - 1) (omega arith) (omega arith)))
      go (no l) (no m) = omega arith
