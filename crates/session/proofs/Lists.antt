-- Lists of points against functions of levels.
use mathlib.Core.Path.{◌≡◌, refl, sym, ◌∙◌}
use mathlib.Core.List.{List, [], ◌∷◌}
use Prim.Native.Nat.{ℕ, zero, suc, ◌+◌, ◌-◌, ◌*◌, ◌<◌}
use native.Mathlib.Omega.{arith}
use lib.IntN.{ℤ, ◌+ℤ◌}
use lib.ListN.{length, drop, length-drop}
use lib.Seq.{get_or-drop}
use Rattle.theory_lists.specs.Sum.{sum_for}
use Rattle.theory_chains.specs.Sum.{sum, all}
use Rattle.theory_chains.specs.Mirror.{sum_first}
use Rattle.theory_method.specs.Counted.{counted, counted-sum}
use Rattle.base_codes.specs.Code.{on}
use Rattle.base_codes.proofs.Offset.{Less, less_add}
use Rattle.session.specs.Profile.{sum_of, total}

-- a sum is that of the numbers over the offset, over the sum of the offsets
sum_less : (x : List ℤ) (c : ℕ → ℕ) (k : ℕ) → ((i : ℕ) → i < length x → Less (on x i) (c i) k) → Less (sum_of x) (sum all (length x) c) (length x * k)
sum_less [] c k h = omega arith
sum_less (z ∷ zs) c k h =
    let rest : Less (sum_of zs) (sum all (length zs) (λ i. c (suc i))) (length zs * k) = sum_less zs (λ i. c (suc i)) k (λ i l. h (suc i) (omega arith)) in
    let both : Less (z +ℤ sum_of zs) (c 0 + sum all (length zs) (λ i. c (suc i))) (k + length zs * k) =
    less_add z (sum_of zs) (c 0) (sum all (length zs) (λ i. c (suc i))) k (length zs * k) (h 0 (omega arith)) rest in
    let e : c 0 + sum all (length zs) (λ i. c (suc i)) ≡ sum all (suc (length zs)) c = sym (sum_first all (length zs) c) in
    let f : k + length zs * k ≡ suc (length zs) * k = omega arith in
    rw (e, f) at both

-- the days from day i on, as a run and by themselves
run_sum_lem : (c : ℕ → ℕ) (i m : ℕ) → sum all m (λ k. c (i + k)) ≡ sum_for c i m
unfolding sum_for
run_sum_lem c i zero = refl
run_sum_lem c i (suc m) = omega (arith, run_sum_lem c i m)

-- the total of n numbers is the sum of the counted ones over the offset, over the sum of their offsets
pub total_less : (first n : ℕ) (x : List ℤ) (c : ℕ → ℕ) (k : ℕ) → length x ≡ n → ((i : ℕ) → i < n → Less (on x i) (c i) k)
    → Less (total first x) (sum (counted first n) n c) ((n - first) * k)
total_less first n x c k whole h =
    let count : length (drop first x) ≡ n - first = rw (length-drop, whole) in
    let same : sum all (n - first) (λ i. c (first + i)) ≡ sum (counted first n) n c = run_sum_lem c first (n - first) ∙ sym (counted-sum first n c) in
    rw (count, same) at (sum_less (drop first x) (λ i. c (first + i)) k (λ i l. rw (get_or-drop) (h (first + i) (omega (arith, count)))))
