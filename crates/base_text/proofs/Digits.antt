-- The digits of a number, by its last digit, and how many they are.
use mathlib.Core.Path.{◌≡◌, refl}
use mathlib.Core.Bool.{cond}
use mathlib.Core.List.{[], ◌∷◌, ◌++◌}
use Prim.Native.Nat.{ℕ, zero, suc, ◌+◌, ◌/◌, ◌%◌, ◌^◌, ◌≤◌, ◌<◌}
use native.Mathlib.Numerals.{add-one}
use native.Mathlib.Nat.{pow-suc, div-lt_iff_lt-mul}
use native.Mathlib.Omega.{arith}
use native.Mathlib.Decide.{dec_lt}
use lib.IntN.{ℤ, pos, negsuc}
use lib.Dec.{ltb, leb→le}
use lib.ListN.{length, length-append}
use lib.Signed.{◌≤ℤ◌}
use borrow.Author.Tests.{lt-ltb, le-ltb}
use Rattle.base_text.specs.Numbers.{digits, decimal, number}

-- any count above n gives all its digits
digits-all : (m k n : ℕ) → n < m → n < k → digits m n ≡ digits k n
unfolding digits
digits-all zero k n h l = absurd (omega arith)
digits-all (suc m) zero n h l = absurd (omega arith)
digits-all (suc m) (suc k) n h l = go (dec_lt n 10) (digits-all m k (n / 10))
  where
    go : Dec (n < 10) → (n / 10 < m → n / 10 < k → digits m (n / 10) ≡ digits k (n / 10))
        → cond (ltb n 10) ((48 + n) ∷ []) (digits m (n / 10) ++ (48 + n % 10) ∷ []) ≡ cond (ltb n 10) ((48 + n) ∷ []) (digits k (n / 10) ++ (48 + n % 10) ∷ [])
    go (yes s) e = rw (lt-ltb n 10 s)
    go (no s) e = rw (le-ltb n 10 (omega arith), e (omega arith) (omega arith))

pub decimal-small : (n : ℕ) → n < 10 → decimal n ≡ (48 + n) ∷ []
unfolding decimal digits
decimal-small n h = rw (lt-ltb n 10 h)

pub decimal_large : (n : ℕ) → 9 < n → decimal n ≡ decimal (n / 10) ++ (48 + n % 10) ∷ []
unfolding decimal digits
decimal_large n h = rw (le-ltb n 10 (omega arith), digits-all n (suc (n / 10)) (n / 10) (omega arith) (omega arith)) refl

-- one digit more
pub length_large : (n : ℕ) → 9 < n → length (decimal n) ≡ length (decimal (n / 10)) + 1
length_large n h = rw (decimal_large n h) (length-append (decimal (n / 10)) ((48 + n % 10) ∷ []))

-- a number below 10 ^ (d + 1) has at most d + 1 digits
pub decimal-length : (d n : ℕ) → n < 10 ^ (d + 1) → length (decimal n) ≤ d + 1
decimal-length d n h = go d n (rw (add-one d) at h)
  where
    go : (e m : ℕ) → m < 10 ^ suc e → length (decimal m) ≤ e + 1
    go zero m l = rw (decimal-small m l) (omega arith)
    go (suc e) m l = pick (dec_lt m 10) (go e (m / 10) ((div-lt_iff_lt-mul {k = 10} {x = m} {y = 10 ^ suc e} (omega arith)).1 (rw (pow-suc 10 (suc e)) at l)))
      where
        pick : Dec (m < 10) → length (decimal (m / 10)) ≤ e + 1 → length (decimal m) ≤ suc e + 1
        pick (yes s) i = rw (decimal-small m s) (omega arith)
        pick (no s) i = omega (arith, length_large m (omega arith))

-- a number that is at least - 10 ^ (d + 1) + 1 and below 10 ^ (d + 2) takes at most d + 2 places
pub number-length : (d n k : ℕ) (z : ℤ) → negsuc k ≤ℤ z → z ≤ℤ pos n → k + 1 < 10 ^ (d + 1) → n < 10 ^ (d + 2) → length (number z) ≤ d + 2
unfolding number
number-length d n k (pos a) l u f g =
    let e : d + 1 + 1 ≡ d + 2 = omega arith in
    rw e at (decimal-length (d + 1) a (rw e (omega (arith, leb→le a n u.le))))
number-length d n k (negsuc a) l u f g = omega (arith, decimal-length d (suc a) (omega (arith, leb→le a k l.le)))
