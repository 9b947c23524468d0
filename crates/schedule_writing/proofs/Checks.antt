-- A value checked by its range: the code tells what the value does, and what is taken is within the range.
use mathlib.Core.Path.{◌≡◌, refl, ap}
use mathlib.Core.Bool.{Bool, true, false, cond, not, ◌&&◌}
use Prim.Native.Nat.{ℕ, ◌≤◌, ◌<◌}
use native.Mathlib.Omega.{arith}
use native.Mathlib.Decide.{dec_lt}
use lib.IntN.{ℤ}
use lib.Dec.{ltb, leb}
use lib.Signed.{◌≤ℤ◌}
use borrow.Author.Tests.{lt-ltb, le-ltb, le-leb, lt-leb}
use Rattle.base_codes.specs.Code.{within, code, decoded, coded}
use Rattle.base_codes.proofs.Offset.{Less, less_le}
use Rattle.base_codes.proofs.Laws.{code-decoded, decoded_less, code-most, within-yes, within_no, within_less}
use Rattle.base_codes.proofs.Order.{≤ℤ_trans, within_test}
use Rattle.schedule_writing.specs.Stages.{refused_as, taken, checked, checked_code}
use Rattle.std.specs.Prelude.{Option}

-- ---- a value and its code

not_less : (a b : ℕ) → not (ltb b a) ≡ leb a b
not_less a b = go (dec_lt b a)
  where
    go : Dec (b < a) → not (ltb b a) ≡ leb a b
    go (yes h) = rw (lt-ltb b a h, lt-leb a b h)
    go (no h) = let l : a ≤ b = omega arith in rw (le-ltb b a l, le-leb a b l)

-- a number k below 0 is the lowest of bounds that end at top
module _ (low z : ℤ) (k top floor ceiling : ℕ) (p : Less low 0 k) where
  floor-above : low ≤ℤ decoded low floor
  floor-above = less_le low (decoded low floor) 0 floor k p (decoded_less low floor k p) (omega arith)

  -- a value outside its bounds is outside each range in them
  within_none : ceiling ≤ top → within low (decoded low top) z ≡ false → within (decoded low floor) (decoded low ceiling) z ≡ false
  within_none most e =
      let u = less_le (decoded low ceiling) (decoded low top) ceiling top k (decoded_less low ceiling k p) (decoded_less low top k p) most in
      (within_no (decoded low floor) (decoded low ceiling) z).1
      (λ w. (within_no low (decoded low top) z).0 e (≤ℤ_trans low (decoded low floor) z floor-above w.0, ≤ℤ_trans z (decoded low ceiling) (decoded low top) w.1 u))

  -- a value in bounds is within a range where its code is
  within-some : within low (decoded low top) z ≡ true → within (decoded low floor) (decoded low ceiling) z ≡ (leb floor (code low z) && leb (code low z) ceiling)
  within-some e =
      cc (
        within_test (decoded low floor) (decoded low ceiling) z floor ceiling (code low z) k (decoded_less low floor k p) (decoded_less low ceiling k p)
            (within_less low (decoded low top) z k p e),
        not_less floor (code low z),
        not_less (code low z) ceiling,
      )

  -- so its code tells what it does itself
  pub check-coded : (spent : Bool) → ceiling ≤ top → {v : Option ℕ} → v ≡ coded low (decoded low top) z → checked_code v floor ceiling spent ≡ checked low floor ceiling spent z
  unfolding checked
  check-coded spent most e = rw e (go (within low (decoded low top) z) refl)
    where
      go : (b : Bool) → within low (decoded low top) z ≡ b → checked_code (coded low (decoded low top) z) floor ceiling spent ≡ checked low floor ceiling spent z
      go true h = rw (h, within-some h)
      go false h = rw (h, within_none most h)

-- ---- what a check tells
module _ (low z : ℤ) (floor ceiling : ℕ) (spent : Bool) where
  pub checked-refusal : (checked low floor ceiling spent z).refusal ≡ cond spent 9 (cond (not (within (decoded low floor) (decoded low ceiling) z)) 10 0)
  unfolding checked
  checked-refusal = go spent (within (decoded low floor) (decoded low ceiling) z)
    where
      go : (a b : Bool) → (cond a (refused_as 9) (cond b (taken (code low z)) (refused_as 10))).refusal ≡ cond a 9 (cond (not b) 10 0)
      go true b = refl
      go false true = refl
      go false false = refl

  module _ {c : ℕ} (e : taken c ≡ checked low floor ceiling spent z) where
    taken-within : (within (decoded low floor) (decoded low ceiling) z ≡ true) × (c ≡ code low z)
    unfolding checked
    taken-within = go spent (within (decoded low floor) (decoded low ceiling) z) e
      where
        go : (a b : Bool) → taken c ≡ cond a (refused_as 9) (cond b (taken (code low z)) (refused_as 10)) → (b ≡ true) × (c ≡ code low z)
        go true b h = absurd (omega (arith, ap (λ q. q.refusal) h))
        go false true h = (refl, ap (λ q. q.code) h)
        go false false h = absurd (omega (arith, ap (λ q. q.refusal) h))

    -- where it is taken, its code is given, and is within the range
    pub taken-code : c ≡ code low z
    taken-code = taken-within.1

    pub taken-most : (k : ℕ) → Less low 0 k → c ≤ ceiling
    taken-most k p =
        let w = (within-yes (decoded low floor) (decoded low ceiling) z).0 taken-within.0 in
        let l = ≤ℤ_trans low (decoded low floor) z (floor-above low z k ceiling floor ceiling p) w.0 in
        omega (arith, taken-code, code-most low (decoded low ceiling) z ((within-yes low (decoded low ceiling) z).1 (l, w.1)), code-decoded low ceiling)
