-- What holds of codes and of answers.
use mathlib.Core.Path.{◌≡◌, refl, sym, ap, ◌∙◌}
use mathlib.Core.Logic.{◌↔◌}
use mathlib.Core.Bool.{Bool, true, false, cond, and-eq-true_iff, true≢false}
use Prim.Native.Nat.{ℕ, zero, suc, ◌+◌, ◌-◌, ◌≤◌}
use native.Mathlib.Omega.{arith}
use lib.IntN.{ℤ, pos, negsuc, neg_ℤ, nat_abs, ◌-ℤ◌, +ℤ_comm, +ℤ-neg_ℤ_cancel, -ℤ-+ℤ_cancel}
use lib.Signed.{◌≤ℤ◌, le_z, le_z_yes}
use denote.Floats.{passes, is_true}
use Rattle.limits.specs.Limits.{lowest_point, highest_point, lowest_rise, highest_rise, lowest_total, highest_total, lowest_setpoint}
use Rattle.std.specs.Prelude.{Option, None, Some}
use Rattle.base_codes.proofs.Offset.{Less, le_less, less_same, less_add}
use Rattle.base_codes.specs.Code.{within, code, decoded, coded}

-- the lowest bounds, as offsets
pub point_less : Less lowest_point 0 1000
point_less = refl

pub rise_less : Less lowest_rise 0 2000
rise_less = refl

pub total_less : Less lowest_total 0 512000
total_less = refl

pub setpoint_less : Less lowest_setpoint 0 32768
setpoint_less = refl

less_neg : (z : ℤ) (n k : ℕ) → Less z n k → Less (neg_ℤ z) k n
less_neg (pos zero) n k p = omega arith
less_neg (pos (suc a)) n k p = omega arith
less_neg (negsuc a) n k p = omega arith

less_sub : (z y : ℤ) (n m k : ℕ) → Less z n k → Less y m k → Less (z -ℤ y) (n + k) (k + m)
less_sub z y n m k p q = less_add z (neg_ℤ y) n k k m p (less_neg y m k q)

less_abs : (z : ℤ) (n k : ℕ) → Less z n k → k ≤ n → nat_abs z + k ≡ n
less_abs (pos a) n k p h = omega arith
less_abs (negsuc a) n k p h = absurd (omega arith)

-- a number over any offset that is large enough
over : (z : ℤ) (k : ℕ) → nat_abs z ≤ k → (n : ℕ) × Less z n k
over (pos a) k h = (a + k, refl)
over (negsuc a) k h = (k - suc a, omega arith)

-- the code is the difference, over any offset
pub code_sum : (low z : ℤ) (m n k : ℕ) → Less low m k → Less z n k → m ≤ n → code low z + m ≡ n
code_sum low z m n k p q h = omega (arith, less_abs (z -ℤ low) (n + k) (k + m) (less_sub z low n m k q p) (omega arith))

pub code_difference : (low z : ℤ) → low ≤ℤ z → z -ℤ low ≡ pos (code low z)
code_difference low z h =
    let k = nat_abs low + nat_abs z in
    let m = over low k (omega arith) in
    let n = over z k (omega arith) in
    less_same (z -ℤ low) (pos (code low z)) (n.0 + k) (k + m.0) (less_sub z low n.0 m.0 k n.1 m.1)
    (omega (arith, code_sum low z m.0 n.0 k m.1 n.1 (le_less low z m.0 n.0 k m.1 n.1 h)))

-- to the code and back
pub code-decoded : (low : ℤ) (n : ℕ) → code low (decoded low n) ≡ n
code-decoded low n = ap (λ z. nat_abs (z -ℤ low)) (+ℤ_comm low (pos n)) ∙ ap nat_abs (+ℤ-neg_ℤ_cancel (pos n) low)

pub decoded-code : (low z : ℤ) → low ≤ℤ z → decoded low (code low z) ≡ z
decoded-code low z h = rw (← code_difference low z h) (+ℤ_comm low (z -ℤ low) ∙ -ℤ-+ℤ_cancel z low)

-- a code is the number that stands for its integer over the offset of low
pub decoded_less : (low : ℤ) (n k : ℕ) → Less low 0 k → Less (decoded low n) n k
decoded_less low n k p =
    let i : 0 + n ≡ n = omega arith in
    let o : k + 0 ≡ k = omega arith in
    let q : n ≡ n + 0 = omega arith in
    rw (i, o) at (less_add low (pos n) 0 n k 0 p q)

pub code_less : (low z : ℤ) (k : ℕ) → Less low 0 k → low ≤ℤ z → Less z (code low z) k
code_less low z k p h = rw (decoded-code low z h) at (decoded_less low (code low z) k p)

-- a number is within where it is between, and its code is then at most the highest's
pub within-yes : (low high z : ℤ) → within low high z ≡ true ↔ (low ≤ℤ z) × (z ≤ℤ high)
within-yes low high z =
    let both = and-eq-true_iff (le_z low z) (le_z z high) in (
      λ h. (le_z_yes (passes (le_z low z) (both.0 h).0), le_z_yes (passes (le_z z high) (both.0 h).1)),
      λ w. both.1 (is_true (le_z low z) w.0.le, is_true (le_z z high) w.1.le),
    )

pub within_no : (low high z : ℤ) → within low high z ≡ false ↔ ((low ≤ℤ z) × (z ≤ℤ high) → ⊥)
within_no low high z = (λ e w. true≢false (sym ((within-yes low high z).1 w) ∙ e), λ h. go h (within low high z) refl)
  where
    go : ((low ≤ℤ z) × (z ≤ℤ high) → ⊥) → (b : Bool) → within low high z ≡ b → b ≡ false
    go h true e = absurd (h ((within-yes low high z).0 e))
    go h false e = refl

pub within_less : (low high z : ℤ) (k : ℕ) → Less low 0 k → within low high z ≡ true → Less z (code low z) k
within_less low high z k p e = code_less low z k p ((within-yes low high z).0 e).0

pub code-most : (low high z : ℤ) → within low high z ≡ true → code low z ≤ code low high
code-most low high z h =
    let w = (within-yes low high z).0 h in
    let k = nat_abs low + nat_abs z + nat_abs high in
    let m = over low k (omega arith) in
    let n = over z k (omega arith) in
    let t = over high k (omega arith) in
    let l = le_less low z m.0 n.0 k m.1 n.1 w.0 in
    let u = le_less z high n.0 t.0 k n.1 t.1 w.1 in
    omega (arith, code_sum low z m.0 n.0 k m.1 n.1 l, code_sum low high m.0 t.0 k m.1 t.1 (omega arith))

pub point_most : (z : ℤ) → within lowest_point highest_point z ≡ true → code lowest_point z ≤ 5000
point_most = code-most lowest_point highest_point

pub rise-most : (z : ℤ) → within lowest_rise highest_rise z ≡ true → code lowest_rise z ≤ 4000
rise-most = code-most lowest_rise highest_rise

pub total-most : (z : ℤ) → within lowest_total highest_total z ≡ true → code lowest_total z ≤ 2560000
total-most = code-most lowest_total highest_total

-- what an answer says of the number
pub coded-code : {r : Option ℕ} (low high z : ℤ) (c : ℕ) → r ≡ coded low high z → r ≡ Some c → (within low high z ≡ true) × (c ≡ code low z)
coded-code {r} low high z c e f = go (within low high z) e
  where
    go : (b : Bool) → r ≡ cond b (Some (code low z)) None → (b ≡ true) × (c ≡ code low z)
    go true p = (refl, cc)
    go false p = (cc, cc)

pub coded-outside : {r : Option ℕ} (low high z : ℤ) → r ≡ coded low high z → r ≡ None → within low high z ≡ false
coded-outside {r} low high z e f = go (within low high z) e
  where
    go : (b : Bool) → r ≡ cond b (Some (code low z)) None → b ≡ false
    go true p = cc
    go false p = refl
