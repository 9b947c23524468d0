-- Bytes stored one part after another.
use Prim.Native.Nat.{ℕ, ◌+◌, ◌≤◌}
use mathlib.Core.Path.{◌≡◌, refl, ◌∙◌}
use mathlib.Core.List.{List, ◌++◌, append-nil}
use native.Mathlib.Omega.{arith}
use lib.ListN.{length, length-append}
use lib.Seq.{sets, drop-length}
use Rattle.theory_lists.specs.Front.{in_front}
use Rattle.theory_lists.specs.Part.{stored_before, stored_past}
use Rattle.base_little_endian.specs.Fields.{u16_at}
use Rattle.theory_lists.specs.Rows.{front-sets, stored_after}

-- w numbers, xs, stored from a place on
pub record Laid (l : List ℕ) (place : ℕ) (xs : List ℕ) (w : ℕ) (out : List ℕ) : Type 0 where
  pub made : out ≡ sets l place xs
  pub long : length xs ≡ w

pub laid : {out : List ℕ} {w : ℕ} (l : List ℕ) (place : ℕ) (xs : List ℕ) → out ≡ sets l place xs → length xs ≡ w → Laid l place xs w out
laid l place xs e f = record { made = e; long = f }

-- and others after them
module _ {l m out xs : List ℕ} {place w : ℕ} (h : Laid l place xs w m) (ys : List ℕ) (e : out ≡ sets m (place + w) ys) where
  pub laid_last : out ≡ sets l place (xs ++ ys)
  laid_last = stored_after l place w xs ys h.long h.made e

  pub laid_more : {v : ℕ} → length ys ≡ v → Laid l place (xs ++ ys) (w + v) out
  laid_more f = record { made = laid_last; long = omega (arith, length-append xs ys, h.long) }

-- a list stored over the whole of another
pub sets-whole : (xs l : List ℕ) → length xs ≡ length l → sets l 0 xs ≡ xs
unfolding in_front
sets-whole xs l e = front-sets xs l (omega arith) ∙ rw (e, drop-length) (append-nil xs)

-- ---- a field that no store reached

pub field_before : (xs l : List ℕ) (i k : ℕ) → k + 2 ≤ i → u16_at (sets l i xs) k ≡ u16_at l k
unfolding u16_at
field_before xs l i k h = rw (stored_before xs l i k (omega arith), stored_before xs l i (k + 1) (omega arith)) refl

pub field_past : (xs l : List ℕ) (i k : ℕ) → i + length xs ≤ k → u16_at (sets l i xs) k ≡ u16_at l k
unfolding u16_at
field_past xs l i k h = rw (stored_past xs l i k h, stored_past xs l i (k + 1) (omega arith)) refl
