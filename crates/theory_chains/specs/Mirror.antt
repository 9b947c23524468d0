-- The mirror: days counted from the other end, and levels from the other end of the scale. It turns floors into ceilings and chains into chains.
use Rattle.std.specs.Prelude.{◌≡◌, refl, Bool, true, false, ℕ, zero, suc, ◌+◌, ◌-◌, ◌≤◌, ◌<◌}
use Rattle.std.proofs.Common.{ap, arith}
use Rattle.theory_chains.specs.Sum.{sum, weigh, sum_eq}
use Rattle.theory_chains.specs.Chain.{Chain, Below}

-- the same day, counted from the last of n
abbrev pub flip : ℕ → ℕ → ℕ
flip n k = n - suc k

abbrev pub mirror : (n top : ℕ) → (ℕ → ℕ) → ℕ → ℕ
mirror n top y k = top - y (flip n k)

abbrev pub backward : {A : Type 0} → ℕ → (ℕ → A) → ℕ → A
backward n f k = f (flip n k)

-- the largest rises, from the other end: the step from k to k + 1 is the one from n - 2 - k to n - 1 - k
abbrev pub steps : ℕ → (ℕ → ℕ) → ℕ → ℕ
steps n g k = g (n - suc (suc k))

pub flip-flip : (n k : ℕ) → k < n → flip n (flip n k) ≡ k
flip-flip n k h = omega arith

module _ (n top : ℕ) where
  pub mirror-below : (y z : ℕ → ℕ) → Below n y z → Below n (mirror n top z) (mirror n top y)
  mirror-below y z yz k h = omega (arith, yz (flip n k) (omega arith))

  pub mirror_top : (y : ℕ → ℕ) → Below n (mirror n top y) (λ _. top)
  mirror_top y k h = omega arith

  pub mirror-chain : (g y : ℕ → ℕ) → Chain n g y → Below n y (λ _. top) → Chain n (steps n g) (mirror n top y)
  mirror-chain g y cy cap = record { up = ups; near = nears }
    where
      next : (k : ℕ) → suc k < n → suc (n - suc (suc k)) ≡ flip n k
      next k h = omega arith

      ups : (k : ℕ) → suc k < n → mirror n top y k ≤ mirror n top y (suc k)
      ups k h =
          let e : y (suc (n - suc (suc k))) ≡ y (flip n k) = ap y (next k h) in
          omega (arith, cy.up (n - suc (suc k)) (omega arith), e)

      nears : (k : ℕ) → suc k < n → mirror n top y (suc k) ≤ mirror n top y k + steps n g k
      nears k h =
          let e : y (suc (n - suc (suc k))) ≡ y (flip n k) = ap y (next k h) in
          omega (arith, cy.near (n - suc (suc k)) (omega arith), e, cap (flip n k) (omega arith))

-- ---- totals

weigh_add : (b : Bool) (u v : ℕ) → weigh b (u + v) ≡ weigh b u + weigh b v
weigh_add true u v = refl
weigh_add false u v = refl

pub sum_add : (w : ℕ → Bool) (n : ℕ) (y z : ℕ → ℕ) → sum w n (λ k. y k + z k) ≡ sum w n y + sum w n z
sum_add w zero y z = refl
sum_add w (suc n) y z = omega (arith, sum_add w n y z, weigh_add (w n) (y n) (z n))

-- the first day apart
pub sum_first : (w : ℕ → Bool) (n : ℕ) (y : ℕ → ℕ) → sum w (suc n) y ≡ weigh (w 0) (y 0) + sum (λ k. w (suc k)) n (λ k. y (suc k))
sum_first w zero y = omega arith
sum_first w (suc n) y = omega (arith, sum_first w n y)

pub sum-weigh_eq : (w u : ℕ → Bool) (n : ℕ) (y z : ℕ → ℕ) → ((k : ℕ) → k < n → weigh (w k) (y k) ≡ weigh (u k) (z k)) → sum w n y ≡ sum u n z
sum-weigh_eq w u zero y z h = refl
sum-weigh_eq w u (suc n) y z h = omega (arith, sum-weigh_eq w u n y z (λ k l. h k (omega arith)), h n (omega arith))

-- a sum is the same from the other end
pub sum-backward : (w : ℕ → Bool) (n : ℕ) (y : ℕ → ℕ) → sum (backward n w) n (backward n y) ≡ sum w n y
sum-backward w zero y = refl
sum-backward w (suc n) y =
    let first : weigh (w (suc n - 1)) (y (suc n - 1)) ≡ weigh (w n) (y n) = ap (λ (m : ℕ). weigh (w m) (y m)) (omega arith) in
    let rest : sum (λ k. backward (suc n) w (suc k)) n (λ k. backward (suc n) y (suc k)) ≡ sum (backward n w) n (backward n y)
    = sum-weigh_eq (λ k. backward (suc n) w (suc k)) (backward n w) n (λ k. backward (suc n) y (suc k)) (backward n y)
    (λ k h. ap (λ (m : ℕ). weigh (w m) (y m)) (omega arith)) in
    omega (arith, sum_first (backward (suc n) w) n (backward (suc n) y), sum-backward w n y)

-- the mirror's total and the total make up the whole scale's
pub mirror-sum : (w : ℕ → Bool) (n top : ℕ) (y : ℕ → ℕ) → Below n y (λ _. top) → sum (backward n w) n (mirror n top y) + sum w n y ≡ sum w n (λ _. top)
mirror-sum w n top y cap =
    let back : sum (backward n w) n (mirror n top y) ≡ sum w n (λ k. top - y k) = sum-backward w n (λ k. top - y k) in
    let both : sum w n (λ k. (top - y k) + y k) ≡ sum w n (λ _. top) = sum_eq w n (λ k. (top - y k) + y k) (λ _. top) (λ k h. omega (arith, cap k h)) in
    omega (arith, sum_add w n (λ k. top - y k) y)

-- the same, from the mirror's side
pub mirror-sum-back : (w : ℕ → Bool) (n top : ℕ) (y : ℕ → ℕ) → Below n y (λ _. top) → sum w n (mirror n top y) + sum (backward n w) n y ≡ sum w n (λ _. top)
mirror-sum-back w n top y cap =
    let back : sum (backward n (backward n w)) n (mirror n top y) ≡ sum w n (mirror n top y) =
    sum-weigh_eq (backward n (backward n w)) w n (mirror n top y) (mirror n top y) (λ k h. ap (λ (m : ℕ). weigh (w m) (mirror n top y k)) (flip-flip n k h)) in
    omega (arith, mirror-sum (backward n w) n top y cap, sum-backward w n (λ _. top))

-- a level above another's mirror
pub swap : {top u v z : ℕ} → u ≤ top - v → v ≡ z → z ≤ top → z ≤ top - u
swap h e l = omega arith
