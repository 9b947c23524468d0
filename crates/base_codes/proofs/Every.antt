-- Every number of a list passes a test, by its indices.
use mathlib.Core.Path.{◌≡◌, refl, ap, sym, ◌∙◌}
use mathlib.Core.Bool.{Bool, true, false, not, ◌&&◌, ◌||◌, and-eq-true_iff}
use mathlib.Core.List.{List, [], ◌∷◌}
use Prim.Native.Nat.{ℕ, zero, suc, ◌<◌}
use native.Mathlib.Omega.{arith}
use lib.IntN.{ℤ}
use lib.ListN.{length}
use Rattle.theory_lists.specs.Some.{some, some-front}
use Rattle.theory_lists.specs.Written.{written, written_same}
use Rattle.base_codes.specs.Code.{within, code, on, every, code_or_zero}

pub every_on : (test : ℤ → Bool) (zs : List ℤ) → every test zs ≡ true → (k : ℕ) → k < length zs → test (on zs k) ≡ true
every_on test [] e k h = absurd (omega arith)
every_on test (z ∷ zs) e zero h = ((and-eq-true_iff (test z) (every test zs)).0 e).0
every_on test (z ∷ zs) e (suc k) h = every_on test zs ((and-eq-true_iff (test z) (every test zs)).0 e).1 k (omega arith)

pub every-yes : (test : ℤ → Bool) (zs : List ℤ) → ((k : ℕ) → k < length zs → test (on zs k) ≡ true) → every test zs ≡ true
every-yes test [] h = refl
every-yes test (z ∷ zs) h = (and-eq-true_iff (test z) (every test zs)).1 (h 0 (omega arith), every-yes test zs (λ k l. h (suc k) (omega arith)))

pub not_both : (a b : Bool) → not (a && b) ≡ (not a || not b)
not_both true b = refl
not_both false b = refl

-- not every one: some index has one that fails
pub every_some : (test : ℤ → Bool) (zs : List ℤ) → not (every test zs) ≡ some (λ k. not (test (on zs k))) (length zs)
unfolding some
every_some test [] = refl
every_some test (z ∷ zs) =
    not_both (test z) (every test zs) ∙ ap (λ b. not (test z) || b) (every_some test zs) ∙ sym (some-front (λ k. not (test (on (z ∷ zs) k))) (length zs))

-- where every number is within its bounds, each has its code
pub codes-inside : (low high : ℤ) (zs : List ℤ) (l : List ℕ) → every (within low high) zs ≡ true
    → written (λ k. code_or_zero low high (on zs k)) (length zs) l ≡ written (λ k. code low (on zs k)) (length zs) l
codes-inside low high zs l e = written_same _ _ (length zs) l (λ k h. rw (every_on (within low high) zs e k h))
