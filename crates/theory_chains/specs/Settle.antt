-- The least chain over given floors: floors carried forward, and then back by the largest rises. The ceilings are its mirror.
use Rattle.std.specs.Prelude.{◌≡◌}
use Rattle.std.proofs.Math.Path.{ap}
use Prim.Native.Nat.{ℕ, zero, suc, ◌+◌, ◌-◌, ◌≤◌, ◌<◌, max}
use Rattle.std.proofs.Common.{le_refl}
use native.Mathlib.Omega.{arith}
use Rattle.theory_chains.specs.Chain.{Chain, Below}
use Rattle.theory_chains.specs.Mirror.{mirror, flip, steps, mirror-below, mirror-chain, mirror_top, flip-flip, swap}
use Rattle.theory_chains.specs.Floors.{unmirror}

-- floors carried forward: each at least the one before
abbrev forward : (ℕ → ℕ) → ℕ → ℕ
forward a zero = a zero
forward a (suc k) = max (a (suc k)) (forward a k)

-- and back over d days: each no more than the largest rise below the next
abbrev back : (g a : ℕ → ℕ) (d k : ℕ) → ℕ
back g a zero k = a k
back g a (suc d) k = max (a k) (back g a d (suc k) - g k)

pub settled : (n : ℕ) (g a : ℕ → ℕ) (k : ℕ) → ℕ
settled n g a k = back g (forward a) (n - suc k) k

module _ (n : ℕ) (g : ℕ → ℕ) where
  forward-least : (a y : ℕ → ℕ) → Chain n g y → Below n a y → Below n (forward a) y
  forward-least a y cy ay zero h = ay zero h
  forward-least a y cy ay (suc k) h = omega (arith, forward-least a y cy ay k (omega arith), cy.up k h, ay (suc k) h)

  forward-above : (a : ℕ → ℕ) (k : ℕ) → a k ≤ forward a k
  forward-above a zero = le_refl (a zero)
  forward-above a (suc k) = omega arith

  back_above : (a : ℕ → ℕ) (d k : ℕ) → a k ≤ back g a d k
  back_above a zero k = le_refl (a k)
  back_above a (suc d) k = omega arith

  back-least : (a y : ℕ → ℕ) → Chain n g y → Below n a y → (d k : ℕ) → d + k < n → back g a d k ≤ y k
  back-least a y cy ay zero k h = ay k (omega arith)
  back-least a y cy ay (suc d) k h = omega (arith, back-least a y cy ay d (suc k) (omega arith), cy.near k (omega arith), ay k (omega arith))

  -- over floors that never fall
  back_up : (a : ℕ → ℕ) → ((k : ℕ) → a k ≤ a (suc k)) → (d k : ℕ) → back g a (suc d) k ≤ back g a d (suc k)
  back_up a rising d k = omega (arith, rising k, back_above a d (suc k))

  pub settled-least : (a y : ℕ → ℕ) → Chain n g y → Below n a y → Below n (settled n g a) y
  unfolding settled
  settled-least a y cy ay k h = back-least (forward a) y cy (forward-least a y cy ay) (n - suc k) k (omega arith)

  pub settled-above : (a : ℕ → ℕ) → Below n a (settled n g a)
  unfolding settled
  settled-above a k h = omega (arith, forward-above a k, back_above (forward a) (n - suc k) k)

  pub settled-chain : (a : ℕ → ℕ) → Chain n g (settled n g a)
  unfolding settled
  settled-chain a = record { up = ups; near = nears }
    where
      one : (k : ℕ) → suc k < n → back g (forward a) (n - suc k) k ≡ back g (forward a) (suc (n - suc (suc k))) k
      one k h = let e : n - suc k ≡ suc (n - suc (suc k)) = omega arith in ap (λ (d : ℕ). back g (forward a) d k) e

      rising : (k : ℕ) → forward a k ≤ forward a (suc k)
      rising k = omega arith

      ups : (k : ℕ) → suc k < n → back g (forward a) (n - suc k) k ≤ back g (forward a) (n - suc (suc k)) (suc k)
      ups k h = omega (arith, one k h, back_up (forward a) rising (n - suc (suc k)) k)

      nears : (k : ℕ) → suc k < n → back g (forward a) (n - suc (suc k)) (suc k) ≤ back g (forward a) (n - suc k) k + g k
      nears k h = omega (arith, one k h)

  -- a chain stays as it is
  pub settled_same : (a : ℕ → ℕ) → Chain n g a → (k : ℕ) → k < n → settled n g a k ≡ a k
  settled_same a ca k h = omega (arith, settled-above a k h, settled-least a a ca (λ j l. le_refl (a j)) k h)

-- ---- ceilings, as the mirror

-- b is the greatest chain below b₀
pub record Greatest (n : ℕ) (g b₀ b : ℕ → ℕ) : Type 0 where
  pub chain : Chain n g b
  pub below : Below n b b₀
  pub over : (y : ℕ → ℕ) → Chain n g y → Below n y b₀ → Below n y b

pub chain_greatest : {n : ℕ} {g b : ℕ → ℕ} → Chain n g b → Greatest n g b b
chain_greatest {b = b} cb = record { chain = cb; below = λ k h. le_refl (b k); over = λ y cy yb. yb }

pub capped : (n top : ℕ) (g b : ℕ → ℕ) (k : ℕ) → ℕ
capped n top g b = mirror n top (settled n (steps n g) (mirror n top b))

pub capped_greatest : (n top : ℕ) (g b : ℕ → ℕ) → Below n b (λ _. top) → Greatest n g b (capped n top g b)
unfolding capped
capped_greatest n top g b cap = record { chain = chain; below = below; over = over }
  where
    a* : ℕ → ℕ
    a* = settled n (steps n g) (mirror n top b)

    level : Chain n (steps n g) (λ _. top)
    level = record { up = λ k h. le_refl top; near = λ k h. omega arith }

    chain : Chain n g (mirror n top a*)
    chain =
        unmirror n top g a* (settled-chain n (steps n g) (mirror n top b))
        (settled-least n (steps n g) (mirror n top b) (λ _. top) level (mirror_top n top b))

    below : Below n (mirror n top a*) b
    below k h = omega (arith, settled-above n (steps n g) (mirror n top b) (flip n k) (omega arith), ap b (flip-flip n k h))

    over : (y : ℕ → ℕ) → Chain n g y → Below n y b → Below n y (mirror n top a*)
    over y cy yb k h =
        let ycap : Below n y (λ _. top) = λ j l. omega (arith, yb j l, cap j l) in
        swap (settled-least n (steps n g) (mirror n top b) (mirror n top y) (mirror-chain n top g y cy ycap) (mirror-below n top y b yb) (flip n k) (omega arith))
        (ap y (flip-flip n k h)) (ycap k h)
