-- A number stored digit by digit, and the text of a signed one.
use Prim.Native.Nat.{ℕ, ◌+◌, ◌/◌, ◌%◌, ◌<◌}
use mathlib.Core.Path.{◌≡◌, refl, ap}
use mathlib.Core.Bool.{true, false, true≢false}
use mathlib.Core.List.{List, [], ◌∷◌}
use native.Mathlib.Nat.{mod-eq_of_lt}
use native.Mathlib.Omega.{arith}
use lib.ListN.{length, set, length-append}
use lib.Seq.{sets, length-sets}
use lib.IntN.{ℤ, pos, negsuc, nat_abs}
use lib.Signed.{lt_z}
use mir.Syntax.{w32}
use mir.Val.{SFits, to_z, of_z}
use mir.Facts.{to_z-of_z}
use borrow.Author.Tests.{ltb-true}
use Rattle.theory_lists.specs.Rows.{sets_append}
use Rattle.base_text.specs.Numbers.{decimal, number}
use Rattle.base_text.proofs.Digits.{decimal-small, decimal_large}

-- what stands before the last digit of n is stored: with that digit stored too all of n is
pub record Led (n place : ℕ) (l : List ℕ) (next : ℕ) (out : List ℕ) : Type 0 where
  pub ends : next + 1 ≡ place + length (decimal n)
  pub kept : length out ≡ length l
  pub made : set out next (48 + n % 10) ≡ sets l place (decimal n)

module _ {n place : ℕ} {l : List ℕ} where
  pub led_small : {next : ℕ} {out : List ℕ} → n < 10 → out ≡ l → next ≡ place → Led n place l next out
  led_small h e p =
      let d = decimal-small n h in
      let m : n % 10 ≡ n = mod-eq_of_lt h in
      record { ends = rw (p, d) refl; kept = ap length e; made = rw (e, p, d, m) refl }

  pub led_large : {next : ℕ} {out : List ℕ} → 9 < n → out ≡ sets l place (decimal (n / 10)) → next ≡ place + length (decimal (n / 10)) → Led n place l next out
  led_large {next} {out} h e p =
      let d = decimal_large n h in
      record {
        ends = rw d (omega (arith, length-append (decimal (n / 10)) ((48 + n % 10) ∷ [])));
        kept = rw e (length-sets l place (decimal (n / 10)));
        made = rw (e, p, d) (sets_append (decimal (n / 10)) ((48 + n % 10) ∷ []) l place);
      }

-- ---- a number of 32 bits, read back from its bits, and its text

minus : (z : ℤ) → lt_z z (pos 0) ≡ true → number z ≡ 45 ∷ decimal (nat_abs z)
unfolding number
minus (pos a) t = absurd (omega (arith, ltb-true a 0 t))
minus (negsuc a) t = refl

no_minus : (z : ℤ) → lt_z z (pos 0) ≡ false → number z ≡ decimal (nat_abs z)
unfolding number
no_minus (pos a) t = refl
no_minus (negsuc a) t = absurd (true≢false t)

module _ {z : ℤ} {n : ℕ} (f : SFits w32 z) (e : n ≡ nat_abs (to_z w32 (of_z w32 z))) where
  pub negative : lt_z (to_z w32 (of_z w32 z)) (pos 0) ≡ true → number z ≡ 45 ∷ decimal n
  negative t = rw (e, to_z-of_z f) (minus z (rw (to_z-of_z f) at t))

  pub not_negative : lt_z (to_z w32 (of_z w32 z)) (pos 0) ≡ false → number z ≡ decimal n
  not_negative t = rw (e, to_z-of_z f) (no_minus z (rw (to_z-of_z f) at t))
