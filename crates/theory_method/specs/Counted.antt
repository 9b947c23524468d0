-- Which days count, and sums over the counted days of a run.
use Rattle.std.specs.Prelude.{ℕ, zero, suc, ◌+◌, ◌-◌, ◌≤◌, ◌<◌, ◌≡◌, refl, Bool, true, false, cond, leb, ltb}
use Rattle.std.proofs.Common.{ap, sym, ◌∙◌, le_refl, arith, lt-ltb, le-ltb, le-leb}
use Rattle.std.proofs.Math.Decide.{dec_le, dec_lt}
use Rattle.std.proofs.lemmas.Bool.{lt-leb}
use Rattle.theory_lists.specs.Sum.{sum_for, sum-none, sum_back}
use Rattle.theory_chains.specs.Sum.{sum, all, weigh}

-- whether day k counts: the days from `from` on and before `to` do
unfoldable pub counted : ℕ → ℕ → ℕ → Bool
counted from to k = cond (leb from k) (ltb k to) false

-- the sum of f over the counted days w of the m days from day i on
abbrev pub run_sum : (ℕ → Bool) → (ℕ → ℕ) → ℕ → ℕ → ℕ
run_sum w f = sum_for (λ k. weigh (w k) (f k))

-- how many of the m days from day i on count
abbrev pub count_in : (ℕ → Bool) → ℕ → ℕ → ℕ
count_in w = run_sum w (λ _. 1)

pub counted_in : (from to k : ℕ) → from ≤ k → k < to → counted from to k ≡ true
unfolding counted
counted_in from to k h l =
    let f : leb from k ≡ true = le-leb _ _ h in
    let t : ltb k to ≡ true = lt-ltb _ _ l in
    rw (f, t)

pub counted-before : (from to k : ℕ) → k < from → counted from to k ≡ false
unfolding counted
counted-before from to k h =
    let f : leb from k ≡ false = lt-leb _ _ h in
    rw f

pub counted-past : (from to k : ℕ) → to ≤ k → counted from to k ≡ false
unfolding counted
counted-past from to k h = go (leb from k)
  where
    t : ltb k to ≡ false
    t = le-ltb _ _ h

    go : (b : Bool) → cond b (ltb k to) false ≡ false
    go true = t
    go false = refl

-- the last day counts
pub counted-last : (first n : ℕ) → first < n → counted first n (n - 1) ≡ true
counted-last first n h = counted_in first n (n - 1) (omega arith) (omega arith)

-- from the other end the counted days come first
pub counted-mirror : (first n k : ℕ) → k < n → counted first n (n - suc k) ≡ counted 0 (n - first) k
counted-mirror first n k h = go (dec_lt k (n - first))
  where
    go : Dec (k < n - first) → counted first n (n - suc k) ≡ counted 0 (n - first) k
    go (yes l) = counted_in first n (n - suc k) (omega arith) (omega arith) ∙ sym (counted_in 0 (n - first) k (omega arith) l)
    go (no l) = counted-before first n (n - suc k) (omega arith) ∙ sym (counted-past 0 (n - first) k (omega arith))

-- nothing is nothing, counted or not
pub weigh-none : (b : Bool) {v : ℕ} → v ≤ 0 → weigh b v ≤ 0
weigh-none true h = h
weigh-none false h = le_refl 0

-- where every day counts
pub count-all : (i m : ℕ) → count_in all i m ≡ m
unfolding sum_for
count-all i zero = refl
count-all i (suc m) = omega (arith, count-all i m)

-- the sum of the counted days is that of the run from the first counted day on
sum_run : (first n : ℕ) (y : ℕ → ℕ) (m : ℕ) → m ≤ n → sum (counted first n) m y ≡ sum_for y first (m - first)
sum_run first n y zero h = let e : 0 - first ≡ 0 = omega arith in rw (e, sum-none)
sum_run first n y (suc m) h = go (dec_le first m) (sum_run first n y m (omega arith))
  where
    go : Dec (first ≤ m) → sum (counted first n) m y ≡ sum_for y first (m - first) → sum (counted first n) m y + weigh (counted first n m) (y m) ≡ sum_for y first (suc m - first)
    go (yes l) before =
        let e : suc m - first ≡ m - first + 1 = omega arith in
        let last : first + (m - first) ≡ m = omega arith in
        rw (e, counted_in first n m l h) (omega (arith, sum_back y first (m - first), ap y last))
    go (no l) before =
        let e : suc m - first ≡ m - first = omega arith in
        rw (e, counted-before first n m (omega arith)) (omega arith)

pub counted-sum : (first n : ℕ) (y : ℕ → ℕ) → sum (counted first n) n y ≡ sum_for y first (n - first)
counted-sum first n y = sum_run first n y n (le_refl n)
