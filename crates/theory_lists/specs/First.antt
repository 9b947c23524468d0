-- The first of the numbers below n at which a test holds.
use Rattle.std.specs.Prelude.{ℕ, zero, suc, ◌+◌, ◌≤◌, ◌<◌, ◌≡◌, Bool, true, false, cond, not, ltb, eqb}
use Rattle.std.proofs.Math.Path.{refl}
use Rattle.std.proofs.Common.{ap, sym, ◌∙◌, true≢false, le_refl, arith, below_none, below_more}
use Rattle.std.proofs.Math.Decide.{dec_lt, ℕ_discrete}
use borrow.Author.Tests.{not-false, ltb-true, ltb-false, lt-ltb, le-ltb, eqb-true, eq-eqb, ne_eqb}

-- the first k below n with t k, or n
unfoldable pub first_where : (ℕ → Bool) → ℕ → ℕ
first_where t zero = zero
first_where t (suc m) = let r : ℕ = first_where t m in cond (ltb r m) r (cond (t m) m (suc m))

pub record First (t : ℕ → Bool) (n r : ℕ) : Type 0 where
  pub most : r ≤ n
  pub before : (k : ℕ) → k < r → t k ≡ false
  pub here : r < n → t r ≡ true

pub first : (t : ℕ → Bool) (n : ℕ) → First t n (first_where t n)
unfolding first_where
first t zero = record { most = le_refl 0; before = below_none _; here = λ h. absurd (omega arith) }
first t (suc m) = go (ltb (first_where t m) m) (t m) refl refl (ltb-true (first_where t m) m) (ltb-false (first_where t m) m) (first t m)
  where
    go : (less now : Bool) → less ≡ ltb (first_where t m) m → t m ≡ now → (ltb (first_where t m) m ≡ true → first_where t m < m) → (ltb (first_where t m) m ≡ false → m ≤ first_where t m)
        → First t m (first_where t m) → First t (suc m) (cond less (first_where t m) (cond now m (suc m)))
    go true now e f l u c = record { most = omega (arith, c.most); before = c.before; here = λ h. c.here (l (sym e)) }
    go false true e f l u c = record { most = omega arith; before = λ k h. c.before k (omega (arith, u (sym e))); here = λ h. f }
    go false false e f l u c = record { most = le_refl (suc m); before = λ k h. last k h (ℕ_discrete k m); here = λ h. absurd (omega arith) }
      where
        last : (k : ℕ) → k < suc m → Dec (k ≡ m) → t k ≡ false
        last k h (yes i) = rw i f
        last k h (no i) = c.before k (omega (arith, u (sym e)))

module _ {t : ℕ → Bool} {n : ℕ} where
  not-before : {r s : ℕ} → First t n r → First t n s → s ≤ r
  not-before {r} {s} p q = go (dec_lt r s)
    where
      go : Dec (r < s) → s ≤ r
      go (yes h) = absurd (true≢false (sym (p.here (omega (arith, q.most))) ∙ q.before r h))
      go (no h) = omega arith

  -- there is one such number
  pub first-only : {r : ℕ} → First t n r → r ≡ first_where t n
  first-only p = omega (arith, not-before p (first t n), not-before (first t n) p)

-- tests that agree below n
pub first-same : (t u : ℕ → Bool) (n : ℕ) → ((k : ℕ) → k < n → t k ≡ u k) → first_where t n ≡ first_where u n
first-same t u n h =
    let f = first t n in
    first-only (record {
      most = f.most;
      before = λ k l. sym (h k (omega (arith, f.most))) ∙ f.before k l;
      here = λ l. sym (h (first_where t n) l) ∙ f.here l;
    })

-- ---- a loop that looks for it: the test holds nowhere below i

pub record Nowhere (t : ℕ → Bool) (n i : ℕ) : Type 0 where
  pub most : i ≤ n
  pub before : (k : ℕ) → k < i → t k ≡ false

module _ {t : ℕ → Bool} {n : ℕ} where
  pub nowhere_none : Nowhere t n 0
  nowhere_none = record { most = omega arith; before = below_none _ }

  pub nowhere_more : {i : ℕ} → Nowhere t n i → i < n → t i ≡ false → Nowhere t n (i + 1)
  nowhere_more {i} h l e = record { most = omega arith; before = below_more _ i h.before e }

  pub nowhere_here : {i : ℕ} → Nowhere t n i → i < n → t i ≡ true → i ≡ first_where t n
  nowhere_here h l e = first-only (record { most = h.most; before = h.before; here = λ _. e })

  pub nowhere_all : {i : ℕ} → Nowhere t n i → n ≤ i → n ≡ first_where t n
  nowhere_all {i} h l = first-only (record { most = le_refl n; before = λ k u. h.before k (omega arith); here = λ u. absurd (omega arith) })

-- ---- the first value that is not 0

abbrev pub nonzero : (ℕ → ℕ) → ℕ → Bool
nonzero f k = not (eqb (f k) 0)

-- the first of f 0, f 1, .. , n of them, that is not 0, or 0
unfoldable pub first_nonzero : (ℕ → ℕ) → ℕ → ℕ
first_nonzero f n = let r : ℕ = first_where (nonzero f) n in cond (ltb r n) (f r) 0

pub zero_fails : (v : ℕ) → v ≡ 0 → not (eqb v 0) ≡ false
zero_fails v h = rw (eq-eqb v 0 h) refl

-- functions that agree below n
pub nonzero-same : (f g : ℕ → ℕ) (n : ℕ) → ((k : ℕ) → k < n → f k ≡ g k) → first_nonzero f n ≡ first_nonzero g n
unfolding first_nonzero
nonzero-same f g n h = rw (first-same (nonzero f) (nonzero g) n (λ k l. ap (λ v. not (eqb v 0)) (h k l))) (go (dec_lt (first_where (nonzero g) n) n))
  where
    go : Dec (first_where (nonzero g) n < n) → cond (ltb (first_where (nonzero g) n) n) (f (first_where (nonzero g) n)) 0 ≡ cond (ltb (first_where (nonzero g) n) n) (g (first_where (nonzero g) n)) 0
    go (yes l) = rw (h (first_where (nonzero g) n) l) refl
    go (no l) = rw (le-ltb (first_where (nonzero g) n) n (omega arith)) refl

-- none: every value below n is 0
pub nonzero-none : (f : ℕ → ℕ) (n : ℕ) → first_nonzero f n ≡ 0 → (k : ℕ) → k < n → f k ≡ 0
unfolding first_nonzero
nonzero-none f n e k h = go (dec_lt (first_where (nonzero f) n) n)
  where
    c : First (nonzero f) n (first_where (nonzero f) n)
    c = first (nonzero f) n

    go : Dec (first_where (nonzero f) n < n) → f k ≡ 0
    go (yes l) = absurd (true≢false (sym (c.here l) ∙ zero_fails (f (first_where (nonzero f) n)) (rw (lt-ltb (first_where (nonzero f) n) n l) at e)))
    go (no l) = eqb-true (f k) 0 (not-false (eqb (f k) 0) (c.before k (omega arith)))

-- a loop that looks for it
module _ (f : ℕ → ℕ) {n i : ℕ} (h : Nowhere (nonzero f) n i) where
  pub nonzero-here : i < n → (f i ≡ 0 → ⊥) → f i ≡ first_nonzero f n
  unfolding first_nonzero
  nonzero-here l x = rw (← nowhere_here h l (rw (ne_eqb (f i) 0 x) refl), lt-ltb i n l) refl

  pub nonzero-all : n ≤ i → 0 ≡ first_nonzero f n
  unfolding first_nonzero
  nonzero-all l = rw (← nowhere_all h l, le-ltb n n (le_refl n)) refl
