-- Document 01's shift: what is added to a level of day k so that every least rise becomes 0. A rise code w k is the rise plus 2,000.
-- It is counted from the end, so that a pass from the last day on works it out as it goes; 1,024,000 keeps it a natural number.
use Prim.Native.Nat.{ℕ, zero, suc, ◌+◌, ◌-◌, ◌*◌, ◌≤◌, ◌<◌}
use Rattle.std.specs.Prelude.{◌≡◌, refl}
use Rattle.std.proofs.Math.Path.{ap}
use native.Mathlib.Omega.{arith}
use Rattle.limits.specs.Limits.{most_days, rise_offset, highest_rise_code, last_shift}

-- the shift of the m-th day from the end of n days
unfoldable pub shift_from : (ℕ → ℕ) → ℕ → ℕ → ℕ
shift_from w n zero = last_shift
shift_from w n (suc m) = shift_from w n m + w (n - suc m) - rise_offset

abbrev pub shift : (ℕ → ℕ) → ℕ → ℕ → ℕ
shift w n k = shift_from w n (n - k)

pub shift_start : (w : ℕ → ℕ) (n : ℕ) → shift_from w n 0 ≡ last_shift
unfolding shift_from
shift_start w n = refl

module _ (w : ℕ → ℕ) (n : ℕ) (few : n ≤ most_days) (rises : (k : ℕ) → k < n → w k ≤ highest_rise_code) where
  pub shift-low : (m : ℕ) → m ≤ n → last_shift ≤ shift_from w n m + m * rise_offset
  unfolding shift_from
  shift-low zero h = omega arith
  shift-low (suc m) h = omega (arith, shift-low m (omega arith))

  pub shift-high : (m : ℕ) → m ≤ n → shift_from w n m ≤ last_shift + m * rise_offset
  unfolding shift_from
  shift-high zero h = omega arith
  shift-high (suc m) h = omega (arith, shift-high m (omega arith), rises (n - suc m) (omega arith))

  -- the rule of the shift: with it a least rise reads y k ≤ y (k + 1)
  pub shift-step : (k : ℕ) → k < n → shift w n k + rise_offset ≡ shift w n (k + 1) + w k
  unfolding shift_from
  shift-step k h =
      let e : n - k ≡ suc (n - (k + 1)) = omega arith in
      let p : shift_from w n (n - k) ≡ shift_from w n (suc (n - (k + 1))) = ap (shift_from w n) e in
      let f : n - suc (n - (k + 1)) ≡ k = omega arith in
      let q : w (n - suc (n - (k + 1))) ≡ w k = ap w f in
      omega (arith, shift-low (n - (k + 1)) (omega arith))
