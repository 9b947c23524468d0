-- The tests, sums and casts of signed numbers, as the needs of `code`, `code_cell`, `decode` and `decode_short` have them.
use Prim.Native.Nat.{ℕ, ◌≤◌, ◌<◌, ◌^◌}
use mathlib.Core.Path.{◌≡◌, refl, ap, ◌∙◌, subst}
use mathlib.Core.Bool.{Bool, true, false, cond}
use native.Mathlib.Omega.{arith}
use lib.IntN.{ℤ, pos, negsuc, nat_abs, ◌+ℤ◌, ◌-ℤ◌}
use lib.Signed.{◌≤ℤ◌, ◌<ℤ◌, lt_z, lt_z_yes, lt_z_no, clash_ℤ, non_neg, nat_abs-le}
use lib.Dec.{T, leb→le}
use denote.Floats.{passes}
use borrow.Author.Tests.{le-leb}
use mir.Syntax.{Width, w16, w32, w64}
use mir.Val.{Fits, SFits, to_z, of_z, hbits}
use mir.Facts.{to_z-of_z, to_z_pos, sfits_widen, not_T}
use Rattle.limits.specs.Limits.{lowest_setpoint, highest_setpoint}
use Rattle.std.specs.Prelude.{Option, None, Some}
use Rattle.base_codes.proofs.Offset.{Less}
use Rattle.base_codes.specs.Code.{within, code, decoded, coded}
use Rattle.base_codes.proofs.Laws.{code_difference, code-most, decoded_less, within-yes, coded-code}

-- a number of 32 bits, read back from its bits
abbrev pub seen : ℤ → ℤ
seen z = to_z w32 (of_z w32 z)

-- a test of two such numbers
test_yes : {y z : ℤ} → SFits w32 y → SFits w32 z → lt_z (seen y) (seen z) ≡ true → y <ℤ z
test_yes {y} {z} f g h = lt_z_yes (passes (lt_z y z) (rw (to_z-of_z f, to_z-of_z g) at h))

test_no : {y z : ℤ} → SFits w32 y → SFits w32 z → lt_z (seen y) (seen z) ≡ false → z ≤ℤ y
test_no {y} {z} f g h = lt_z_no (not_T (lt_z y z) (λ t. subst T (rw (to_z-of_z f, to_z-of_z g) at h) t))

-- a number of width v that is cast to w, where it fits both
module _ (v w : Width) {z : ℤ} (f : SFits v z) (g : SFits w z) where
  pub recast_fits : SFits w (to_z v (of_z v z))
  recast_fits = rw (to_z-of_z f) g

  pub recast : to_z w (of_z w (to_z v (of_z v z))) ≡ z
  recast = rw (to_z-of_z f) (to_z-of_z g)

-- a number of 16 bits is a setpoint
pub setpoint_within : {z : ℤ} → SFits w16 z → within lowest_setpoint highest_setpoint z ≡ true
setpoint_within {z = pos a} f = le-leb a 32767 (omega (arith, f.sfits))
setpoint_within {z = negsuc a} f = rw (le-leb a 32767 (omega (arith, f.sfits)))

-- an answer on a number read back from its bits
pub coded_seen : (low high : ℤ) {z : ℤ} {r : Option ℕ} → SFits w32 z → r ≡ coded low high (seen z) → r ≡ coded low high z
coded_seen low high f e = e ∙ ap (coded low high) (to_z-of_z f)

-- bounds read back from their bits
pub bounds_seen : {low high : ℤ} → SFits w32 low → SFits w32 high → {most : ℕ} → code low high ≤ most → code (seen low) (seen high) ≤ most
bounds_seen fl fh h = rw (to_z-of_z fl, to_z-of_z fh) h

-- `code`
outside : (low high z : ℤ) → (low ≤ℤ z → z ≤ℤ high → ⊥) → None ≡ coded low high z
outside low high z h = go (within low high z) (λ e. h ((within-yes low high z).0 e).0 ((within-yes low high z).0 e).1)
  where
    go : (b : Bool) → (b ≡ true → ⊥) → None ≡ cond b (Some (code low z)) None
    go true n = absurd (n refl)
    go false n = refl

-- a number and its bounds have 32 bits
pub record Words (low high z : ℤ) : Type 0 where
  pub low_fits : SFits w32 low
  pub high_fits : SFits w32 high
  pub z_fits : SFits w32 z

-- and neither test has found the number outside; the greatest code fits
pub record Tested (low high z : ℤ) : Type 0 where
  pub words : Words low high z
  pub most : code low high ≤ 2147483647
  pub not-below : lt_z (seen z) (seen low) ≡ false
  pub not-above : lt_z (seen high) (seen z) ≡ false

module _ {low high z : ℤ} where
  module _ (w : Words low high z) where
    pub below : lt_z (seen z) (seen low) ≡ true → None ≡ coded low high z
    below t = outside low high z (λ l u. clash_ℤ (test_yes w.z_fits w.low_fits t) l)

    pub above : lt_z (seen high) (seen z) ≡ true → None ≡ coded low high z
    above t = outside low high z (λ l u. clash_ℤ (test_yes w.high_fits w.z_fits t) u)

  module _ (h : Tested low high z) where
    at_least : low ≤ℤ z
    at_least = test_no h.words.z_fits h.words.low_fits h.not-below

    inside : within low high z ≡ true
    inside = (within-yes low high z).1 (at_least, test_no h.words.high_fits h.words.z_fits h.not-above)

    difference : seen z -ℤ seen low ≡ pos (code low z)
    difference = rw (to_z-of_z h.words.z_fits, to_z-of_z h.words.low_fits) (code_difference low z at_least)

    fits : SFits w32 (pos (code low z))
    fits = record { sfits = omega (arith, h.most, code-most low high z inside) }

    pub sub-fits : SFits w32 (seen z -ℤ seen low)
    sub-fits = rw difference fits

    same : seen (seen z -ℤ seen low) ≡ pos (code low z)
    same = to_z-of_z sub-fits ∙ difference

    pub cast_fits : T (non_neg (seen (seen z -ℤ seen low))) × Fits w64 (nat_abs (seen (seen z -ℤ seen low)))
    cast_fits = rw same (tt, record { fits = omega (arith, h.most, code-most low high z inside) })

    pub taken : Some (nat_abs (seen (seen z -ℤ seen low))) ≡ coded low high z
    taken = rw (same, inside)

-- `code_cell`: what `code` gave on a number of 16 bits, cast to 32
pub record Answered (low high z : ℤ) (r : Option ℕ) : Type 0 where
  pub low_fits : SFits w32 low
  pub high_fits : SFits w32 high
  pub z_fits : SFits w16 z
  pub cast : r ≡ coded (seen low) (seen high) (seen (to_z w16 (of_z w16 z)))

module _ {low high z : ℤ} {r : Option ℕ} (a : Answered low high z r) where
  pub answer : r ≡ coded low high z
  answer = rw (to_z-of_z a.low_fits, to_z-of_z a.high_fits, recast w16 w32 a.z_fits (sfits_widen tt a.z_fits)) at a.cast

  pub cell_fits : {c : ℕ} → r ≡ Some c → code low high ≤ 65535 → Fits w16 c
  cell_fits {c} o h =
      let t = coded-code low high z c answer o in
      record { fits = omega (arith, code-most low high z t.0) }

-- `decode` and `decode_short`
low_less : (low : ℤ) → low ≤ℤ pos 0 → Less low 0 (nat_abs low)
low_less (pos a) h = omega (arith, leb→le a 0 h.le)
low_less (negsuc a) h = omega arith

pub less_fits : (w : Width) (z : ℤ) (n k : ℕ) → Less z n k → n < 2 ^ hbits w → k ≤ 2 ^ hbits w → SFits w z
less_fits w (pos a) n k p h l = record { sfits = omega arith }
less_fits w (negsuc a) n k p h l = record { sfits = omega arith }

module _ {low : ℤ} {n : ℕ} (fl : SFits w32 low) (h : (low ≤ℤ pos 0) × (n ≤ 2147483647)) where
  sum : seen low +ℤ to_z w32 n ≡ decoded low n
  sum = rw (to_z-of_z fl, to_z_pos w32 {n = n} (omega arith))

  pub add_fits : SFits w32 (seen low +ℤ to_z w32 n)
  add_fits =
      rw sum
      (less_fits w32 (decoded low n) n (nat_abs low) (decoded_less low n (nat_abs low) (low_less low h.0)) (omega arith) (nat_abs-le low fl.sfits))

  pub shown : seen (seen low +ℤ to_z w32 n) ≡ decoded low n
  shown = to_z-of_z add_fits ∙ sum

-- a lowest bound of 16 bits
low-most : (low : ℤ) → lowest_setpoint ≤ℤ low → low ≤ℤ pos 0 → nat_abs low ≤ 32768
low-most (pos a) l u = omega (arith, leb→le a 0 u.le)
low-most (negsuc a) l u = omega (arith, leb→le a 32767 l.le)

module _ {low : ℤ} {n : ℕ} (fl : SFits w32 low) (h : (within lowest_setpoint (pos 0) low ≡ true) × (n ≤ 32767)) where
  abbrev bounds : (lowest_setpoint ≤ℤ low) × (low ≤ℤ pos 0)
  bounds = (within-yes lowest_setpoint (pos 0) low).0 h.0

  pub short_asked : (seen low ≤ℤ pos 0) × (n ≤ 2147483647)
  short_asked = (rw (to_z-of_z fl) bounds.1, omega arith)

  pub short_same : {z : ℤ} → z ≡ decoded (seen low) n → z ≡ decoded low n
  short_same e = rw (to_z-of_z fl) at e

  pub short_fits : {z : ℤ} → z ≡ decoded low n → SFits w16 z
  short_fits e =
      rw e
      (less_fits w16 (decoded low n) n (nat_abs low) (decoded_less low n (nat_abs low) (low_less low bounds.1)) (omega arith) (low-most low bounds.0 bounds.1))
