-- Sums over a run of indices, and the excess of a level v over the levels `a k` of a run: the sum of v - a k, none below 0.
use Rattle.std.specs.Prelude.{ℕ, zero, suc, ◌+◌, ◌-◌, ◌*◌, ◌≤◌, ◌<◌, ◌≡◌, refl, List, length, get_or, take, drop}
use Rattle.std.proofs.Common.{ap, add-one, add-suc, add-zero, suc-mul, arith, length-take, length-drop, get_or-take, get_or-drop}

-- f i + f (i + 1) + .. , m terms
unfoldable pub sum_for : (ℕ → ℕ) → ℕ → ℕ → ℕ
sum_for f i zero = 0
sum_for f i (suc m) = sum_for f i m + f (i + m)

-- the elements of a list, by index
abbrev pub at : List ℕ → ℕ → ℕ
at l k = get_or l k 0

-- how far v is above each
abbrev pub above : (ℕ → ℕ) → ℕ → ℕ → ℕ
above a v k = v - a k

pub sum-none : (f : ℕ → ℕ) (i : ℕ) → sum_for f i 0 ≡ 0
unfolding sum_for
sum-none f i = refl

-- one more at the end
pub sum_back : (f : ℕ → ℕ) (i m : ℕ) → sum_for f i (m + 1) ≡ sum_for f i m + f (i + m)
unfolding sum_for
sum_back f i m = rw add-one

front : (f : ℕ → ℕ) (i m : ℕ) → sum_for f i (suc m) ≡ f i + sum_for f (i + 1) m
unfolding sum_for
front f i zero = omega (arith, ap f (add-zero i))
front f i (suc m) =
    let e : i + suc m ≡ i + 1 + m = omega arith in
    omega (arith, front f i m, ap f e)

-- one more in front
pub sum-front : (f : ℕ → ℕ) (i m : ℕ) → sum_for f i (m + 1) ≡ f i + sum_for f (i + 1) m
sum-front f i m = rw (add-one m) (front f i m)

-- each at most t
pub sum-most : (f : ℕ → ℕ) (i m t : ℕ) → ((k : ℕ) → i ≤ k → k < i + m → f k ≤ t) → sum_for f i m ≤ m * t
unfolding sum_for
sum-most f i zero t h = omega arith
sum-most f i (suc m) t h =
    omega (arith, h (i + m) (omega arith) (omega arith), sum-most f i m t (λ k l u. h k l (omega arith)), suc-mul m t)

-- each at most the other's
pub sum_below : (f g : ℕ → ℕ) (i m : ℕ) → ((k : ℕ) → i ≤ k → k < i + m → f k ≤ g k) → sum_for f i m ≤ sum_for g i m
unfolding sum_for
sum_below f g i zero h = omega arith
sum_below f g i (suc m) h = omega (arith, h (i + m) (omega arith) (omega arith), sum_below f g i m (λ k l u. h k l (omega arith)))

-- a part is at most the whole
pub sum_part : (f : ℕ → ℕ) (i m d : ℕ) → sum_for f i m ≤ sum_for f i (m + d)
unfolding sum_for
sum_part f i m zero = rw add-zero (omega arith)
sum_part f i m (suc d) = rw add-suc (omega (arith, sum_part f i m d))

-- zeros at the end count for nothing
pub sum_zeros : (f : ℕ → ℕ) (i m d : ℕ) → ((k : ℕ) → i + m ≤ k → k < i + (m + d) → f k ≡ 0) → sum_for f i (m + d) ≡ sum_for f i m
unfolding sum_for
sum_zeros f i m zero h = rw add-zero refl
sum_zeros f i m (suc d) h =
    rw add-suc (omega (arith, h (i + (m + d)) (omega arith) (omega arith), sum_zeros f i m d (λ k l u. h k l (omega arith))))

-- m levels v are at most the excess and the levels of the run
pub excess_low : (a : ℕ → ℕ) (i m v : ℕ) → m * v ≤ sum_for (above a v) i m + sum_for a i m
unfolding sum_for
excess_low a i zero v = omega arith
excess_low a i (suc m) v = omega (arith, excess_low a i m v, suc-mul m v)

-- and just that where no level is above v
pub excess_exact : (a : ℕ → ℕ) (i m v : ℕ) → ((k : ℕ) → i ≤ k → k < i + m → a k ≤ v) → m * v ≡ sum_for (above a v) i m + sum_for a i m
unfolding sum_for
excess_exact a i zero v h = omega arith
excess_exact a i (suc m) v h =
    omega (arith, excess_exact a i m v (λ k l u. h k l (omega arith)), h (i + m) (omega arith) (omega arith), suc-mul m v)

-- the last of a run
pub sum-last : (f : ℕ → ℕ) (i m : ℕ) → 0 < m → sum_for f i m ≡ sum_for f i (m - 1) + f (i + m - 1)
unfolding sum_for
sum-last f i zero h = absurd (omega arith)
sum-last f i (suc m) h =
    let p : suc m - 1 ≡ m = omega arith in
    let q : i + suc m - 1 ≡ i + m = omega arith in
    rw (p, q)

-- two runs with the same terms
pub sum_same : (f g : ℕ → ℕ) (i j m : ℕ) → ((k : ℕ) → k < m → f (i + k) ≡ g (j + k)) → sum_for f i m ≡ sum_for g j m
unfolding sum_for
sum_same f g i j zero h = refl
sum_same f g i j (suc m) h = omega (arith, sum_same f g i j m (λ k l. h k (omega arith)), h m (omega arith))

-- what a call on `&l[i..e]` says of l
pub sum_slice : (l : List ℕ) (i e : ℕ) → i ≤ e → e ≤ length l
    → sum_for (at (take (e - i) (drop i l))) 0 (length (take (e - i) (drop i l))) ≡ sum_for (at l) i (e - i)
sum_slice l i e h u =
    let n : length (take (e - i) (drop i l)) ≡ e - i = simp (length-take, length-drop) (omega arith) in
    rw n (sum_same (at (take (e - i) (drop i l))) (at l) 0 i (e - i)
    (λ k p. let z : 0 + k ≡ k = omega arith in rw (z, get_or-take, get_or-drop)))
