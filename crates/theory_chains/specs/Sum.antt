-- Sums over the counted days of a sequence.
use Rattle.std.specs.Prelude.{◌≡◌, refl, Bool, true, false, ℕ, zero, suc, ◌+◌, ◌≤◌, ◌<◌}
use Rattle.std.proofs.Common.{le_refl, arith}

-- a number where the day counts, and 0 where it does not
abbrev pub weigh : Bool → ℕ → ℕ
weigh true v = v
weigh false v = 0

-- the sum of y over the counted days below n
abbrev pub sum : (ℕ → Bool) → ℕ → (ℕ → ℕ) → ℕ
sum w zero y = 0
sum w (suc n) y = sum w n y + weigh (w n) (y n)

-- every day counts
abbrev pub all : ℕ → Bool
all k = true

pub weigh_le : (b : Bool) {u v : ℕ} → u ≤ v → weigh b u ≤ weigh b v
weigh_le true h = h
weigh_le false h = le_refl 0

pub sum_le : (w : ℕ → Bool) (n : ℕ) (y z : ℕ → ℕ) → ((k : ℕ) → k < n → y k ≤ z k) → sum w n y ≤ sum w n z
sum_le w zero y z h = le_refl 0
sum_le w (suc n) y z h =
    let one : sum w n y ≤ sum w n z = sum_le w n y z (λ k l. h k (omega arith)) in
    let two : weigh (w n) (y n) ≤ weigh (w n) (z n) = weigh_le (w n) (h n (omega arith)) in
    omega arith

pub sum_eq : (w : ℕ → Bool) (n : ℕ) (y z : ℕ → ℕ) → ((k : ℕ) → k < n → y k ≡ z k) → sum w n y ≡ sum w n z
sum_eq w zero y z h = refl
sum_eq w (suc n) y z h = cc (sum_eq w n y z (λ k l. h k (omega arith)), h n (omega arith))

-- only the counted days matter
pub sum_le_counted : (w : ℕ → Bool) (n : ℕ) (y z : ℕ → ℕ) → ((k : ℕ) → k < n → w k ≡ true → y k ≤ z k) → sum w n y ≤ sum w n z
sum_le_counted w zero y z h = le_refl 0
sum_le_counted w (suc n) y z h = go (w n) (h n (omega arith)) (sum_le_counted w n y z (λ k l. h k (omega arith)))
  where
    go : (b : Bool) → (b ≡ true → y n ≤ z n) → sum w n y ≤ sum w n z → sum w n y + weigh b (y n) ≤ sum w n z + weigh b (z n)
    go true here before = omega (arith, here refl)
    go false here before = omega arith
