-- Checks one after another, each with its refusal's number: what holds where none refuses.
use Rattle.std.specs.Prelude.{◌≡◌, refl, Bool, true, false, cond, ◌||◌, ℕ, zero, suc, eqb}
use Rattle.std.proofs.Common.{arith, ne_eqb}

pub cond-zero : (b : Bool) (m k : ℕ) → cond b (suc m) k ≡ 0 → (b ≡ false) × (k ≡ 0)
cond-zero true m k e = absurd (omega arith)
cond-zero false m k e = (refl, e)

pub cond-first : (b : Bool) (m : ℕ) → cond b 0 (suc m) ≡ 0 → b ≡ true
cond-first true m e = refl
cond-first false m e = absurd (omega arith)

-- the first number, or the second where the first is 0
pub then_zero : (m k : ℕ) → cond (eqb m 0) k m ≡ 0 → (m ≡ 0) × (k ≡ 0)
then_zero zero k e = (refl, e)
then_zero (suc m) k e = let z : suc m ≡ 0 = rw (ne_eqb (suc m) 0 (λ q. omega arith)) at e in absurd (omega arith)

pub or-false : (a b : Bool) → (a || b) ≡ false → (a ≡ false) × (b ≡ false)
or-false true b e = let z : ◌≡◌ {A = ℕ} 0 1 = cc in absurd (omega arith)
or-false false b e = (refl, e)
