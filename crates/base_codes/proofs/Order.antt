-- The order of integers, by the numbers that stand for them over one offset.
use mathlib.Core.Path.{◌≡◌, refl, sym, ◌∙◌}
use mathlib.Core.Bool.{Bool, true, false, not, ◌&&◌}
use Prim.Native.Nat.{ℕ, ◌≤◌, ◌<◌}
use native.Mathlib.Omega.{arith}
use native.Mathlib.Decide.{dec_lt}
use lib.IntN.{ℤ, pos, negsuc}
use lib.Dec.{ltb}
use lib.Signed.{◌≤ℤ◌, le_z, le_z_yes, lt_z, lt_z_yes, lt_z_no, <ℤ-≤ℤ_trans, clash_ℤ}
use mir.Facts.{not_T}
use denote.Floats.{is_true}
use borrow.Author.Tests.{lt-ltb, le-ltb, ltb-true, ltb-false, not-true}
use Rattle.base_codes.proofs.Offset.{Less, less_le, le_less}
use Rattle.base_codes.specs.Code.{within}

pub ≤ℤ_trans : (a b c : ℤ) → a ≤ℤ b → b ≤ℤ c → a ≤ℤ c
≤ℤ_trans a b c l u = lt_z_no (not_T (lt_z c a) (λ t. clash_ℤ (<ℤ-≤ℤ_trans (lt_z_yes t) l) u))

same_test : (a b m n : ℕ) → (a < b → m < n) → (b ≤ a → n ≤ m) → ltb a b ≡ ltb m n
same_test a b m n less more = go (dec_lt a b)
  where
    go : Dec (a < b) → ltb a b ≡ ltb m n
    go (yes h) = lt-ltb a b h ∙ sym (lt-ltb m n (less h))
    go (no h) = le-ltb a b (omega arith) ∙ sym (le-ltb m n (more (omega arith)))

pub less_test : (y z : ℤ) (m n k : ℕ) → Less y m k → Less z n k → lt_z y z ≡ ltb m n
less_test (pos a) (pos b) m n k p q = same_test a b m n (λ h. omega arith) (λ h. omega arith)
less_test (pos a) (negsuc b) m n k p q = sym (le-ltb m n (omega arith))
less_test (negsuc a) (pos b) m n k p q = sym (lt-ltb m n (omega arith))
less_test (negsuc a) (negsuc b) m n k p q = same_test b a m n (λ h. omega arith) (λ h. omega arith)

le_test : (y z : ℤ) (m n k : ℕ) → Less y m k → Less z n k → le_z y z ≡ not (ltb n m)
le_test y z m n k p q = go (ltb n m) (ltb-true n m) (ltb-false n m)
  where
    go : (b : Bool) → (b ≡ true → n < m) → (b ≡ false → m ≤ n) → le_z y z ≡ not b
    go true less more = not-true (le_z y z) (is_true (not (le_z y z)) (not_T (le_z y z) (λ t. absurd (omega (arith, less refl, le_less y z m n k p q (le_z_yes t))))))
    go false less more = is_true (le_z y z) (less_le y z m n k p q (more refl)).le

-- within a range: neither below its lowest number nor above its highest
pub within_test : (low high z : ℤ) (m n x k : ℕ) → Less low m k → Less high n k → Less z x k → within low high z ≡ (not (ltb x m) && not (ltb n x))
within_test low high z m n x k p q r = cc (le_test low z m x k p r, le_test z high x n k r q)
