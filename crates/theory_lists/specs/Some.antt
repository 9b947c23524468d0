-- Whether a test holds for some number below n.
use Rattle.std.specs.Prelude.{ℕ, zero, suc, ◌+◌, ◌≤◌, ◌<◌, ◌≡◌, Bool, true, false, cond, ◌||◌, ltb}
use Rattle.std.proofs.Math.Path.{refl}
use Rattle.std.proofs.Common.{sym, le_refl, add-one, arith, ltb-true, lt-ltb, le-ltb}
use Rattle.std.proofs.Math.Bool.{or-false, or_assoc}
use Rattle.theory_lists.specs.First.{first_where}

unfoldable pub some : (ℕ → Bool) → ℕ → Bool
some t zero = false
some t (suc m) = some t m || t m

-- one more
pub some_more : (t : ℕ → Bool) (m : ℕ) → some t (m + 1) ≡ (some t m || t m)
unfolding some
some_more t m = rw add-one

-- one more in front
pub some-front : (t : ℕ → Bool) (m : ℕ) → some t (suc m) ≡ (t 0 || some (λ k. t (suc k)) m)
unfolding some
some-front t zero = sym (or-false (t 0))
some-front t (suc m) = rw (some-front t m) (or_assoc (t 0) (some (λ k. t (suc k)) m) (t (suc m)))

-- tests that agree below n
pub some_same : (t u : ℕ → Bool) (n : ℕ) → ((k : ℕ) → k < n → t k ≡ u k) → some t n ≡ some u n
unfolding some
some_same t u zero h = refl
some_same t u (suc n) h = rw (some_same t u n (λ k l. h k (omega arith)), h n (omega arith)) refl

-- there is a first such number
pub some_first : (t : ℕ → Bool) (n : ℕ) → some t n ≡ ltb (first_where t n) n
unfolding some first_where
some_first t zero = sym (le-ltb 0 0 (le_refl 0))
some_first t (suc m) =
    rw (some_first t m) (go (ltb (first_where t m) m) (t m) (ltb-true (first_where t m) m))
  where
    go : (less now : Bool) → (less ≡ true → first_where t m < m) → (less || now) ≡ ltb (cond less (first_where t m) (cond now m (suc m))) (suc m)
    go true now l = sym (lt-ltb (first_where t m) (suc m) (omega (arith, l refl)))
    go false true l = sym (lt-ltb m (suc m) (omega arith))
    go false false l = sym (le-ltb (suc m) (suc m) (le_refl (suc m)))

-- ---- a loop with one flag: whether the test held for a number below k

pub record Told (t : ℕ → Bool) (n k : ℕ) (flag : Bool) : Type 0 where
  pub most : k ≤ n
  pub holds : flag ≡ some t k

module _ {t : ℕ → Bool} {n : ℕ} where
  pub told_none : Told t n 0 false
  unfolding some
  told_none = record { most = omega arith; holds = refl }

  pub told_more : {k : ℕ} {flag now : Bool} → Told t n k flag → k < n → now ≡ t k → Told t n (k + 1) (flag || now)
  told_more {k} h l e = record { most = omega arith; holds = rw (h.holds, e) (sym (some_more t k)) }

  pub told_all : {k : ℕ} {flag : Bool} → Told t n k flag → n ≤ k → flag ≡ some t n
  told_all {k} h l = let e : k ≡ n = omega (arith, h.most) in rw e at h.holds
