-- The loops that code numbers in turn, and that of `decode_all`, over plain lists: their invariants, and what starts, keeps and ends each.
use Prim.Native.Nat.{ℕ, ◌+◌, ◌≤◌, ◌<◌}
use mathlib.Core.Path.{◌≡◌, refl, ap, sym, ◌∙◌}
use mathlib.Core.Bool.{Bool, true, false, cond, not, ◌||◌}
use mathlib.Core.List.{List}
use native.Mathlib.Omega.{arith}
use borrow.Author.Count.{below_none, below_more}
use lib.IntN.{ℤ, pos}
use lib.ListN.{length, set, get_or}
use mir.Syntax.{w16, w32}
use mir.Val.{SFits, to_z, of_z}
use mir.Facts.{to_z-of_z}
use Rattle.limits.specs.Limits.{lowest_setpoint, highest_setpoint}
use Rattle.theory_lists.specs.Written.{written}
use Rattle.theory_lists.specs.Filled.{Filled, filled_none, filled_more, filled-all}
use Rattle.theory_lists.specs.Some.{some_same, Told, told_none, told_more, told_all}
use Rattle.std.specs.Prelude.{Option, None, Some, is_some, unwrap_or}
use Rattle.base_codes.specs.Code.{within, code, decoded, on, every, code_or_zero, coded}
use Rattle.base_codes.proofs.Every.{every-yes, every_some}
use Rattle.base_codes.proofs.Casts.{seen, setpoint_within, short_same, short_fits}

-- a coded number's two readings
none-outside : (low high z : ℤ) {b : Bool} → is_some (coded low high z) ≡ not b → b ≡ not (within low high z)
none-outside low high z {b} = go (within low high z) b
  where
    go : (w b : Bool) → is_some (cond w (Some (code low z)) None) ≡ not b → b ≡ not w
    go true true e = cc
    go true false e = refl
    go false true e = refl
    go false false e = cc

pub some-or-zero : (low high z : ℤ) → unwrap_or (coded low high z) 0 ≡ code_or_zero low high z
some-or-zero low high z = go (within low high z)
  where
    go : (b : Bool) → unwrap_or (cond b (Some (code low z)) None) 0 ≡ cond b (code low z) 0
    go true = refl
    go false = refl

-- ---- n numbers f 0, f 1, .. of 16 bits coded in turn: the first i are, and whether one of them is outside its bounds is known

pub record Coding (low high : ℤ) (f : ℕ → ℤ) (n : ℕ) (first : List ℕ) (i : ℕ) (out : List ℕ) (outside : Bool) : Type 0 where
  pub told : Told (λ k. not (within low high (f k))) n i outside
  pub filled : Filled (λ k. code_or_zero low high (f k)) n i first out
  pub short : (k : ℕ) → k < i → within lowest_setpoint highest_setpoint (f k) ≡ true

-- what holds once all are, as a list
abbrev Encoded : (ℕ → ℤ) → ℕ → List ℤ → List ℕ → Bool → List ℕ → ℤ → ℤ → Type 0
Encoded f n zs first r out low high =
    (r ≡ not (every (within low high) zs))
    × ((out ≡ written (λ k. code_or_zero low high (f k)) n first) × (every (within lowest_setpoint highest_setpoint) zs ≡ true))

module _ {low high : ℤ} {f : ℕ → ℤ} {n : ℕ} {first : List ℕ} where
  pub coding_none : Coding low high f n first 0 first false
  coding_none = record { told = told_none; filled = filled_none; short = below_none _ }

  module _ {i : ℕ} {out : List ℕ} {outside : Bool} (h : Coding low high f n first i out outside) where
    -- the number that a turn coded, read back from its bits
    pub coding_more : {z : ℤ} {r : Option ℕ} {v : ℕ} (b : Bool) → i < n → SFits w16 z → z ≡ f i → r ≡ coded low high (to_z w16 (of_z w16 z)) → v ≡ unwrap_or r 0 → is_some r ≡ not b
        → Coding low high f n first (i + 1) (set out i v) (outside || b)
    coding_more b l w e c p q =
        let cell = c ∙ ap (coded low high) (to_z-of_z w ∙ e) in
        record {
          told = told_more h.told l (none-outside low high (f i) (sym (ap is_some cell) ∙ q));
          filled = filled_more h.filled l (p ∙ ap (λ x. unwrap_or x 0) cell ∙ some-or-zero low high (f i));
          short = below_more _ i h.short (rw e at (setpoint_within w));
        }

    pub coding_all : (zs : List ℤ) → length zs ≡ n → ((k : ℕ) → k < n → on zs k ≡ f k) → n ≤ i → Encoded f n zs first outside out low high
    coding_all zs e same l =
        let told = told_all h.told l ∙ some_same _ _ n (λ k u. ap (λ z. not (within low high z)) (sym (same k u))) in (
          told ∙ sym (rw e at (every_some (within low high) zs)),
          (filled-all h.filled l, every-yes (within lowest_setpoint highest_setpoint) zs (λ k u. rw (same k (omega arith)) (h.short k (omega arith)))),
        )

-- the bounds are known as they are read back
pub coding_seen : {low high : ℤ} → SFits w32 low → SFits w32 high → (f : ℕ → ℤ) (n : ℕ) (zs : List ℤ) (first : List ℕ) {i : ℕ} {out : List ℕ} {outside : Bool}
    → Coding (seen low) (seen high) f n first i out outside → length zs ≡ n → ((k : ℕ) → k < n → on zs k ≡ f k) → n ≤ i → Encoded f n zs first outside out low high
coding_seen fl fh f n zs first h e same l = rw (to_z-of_z fl, to_z-of_z fh) at (coding_all h zs e same l)

-- ---- the loop of `decode_all` knows its bound as it is read back, and each number of 16 bits too
module _ {low : ℤ} (fl : SFits w32 low) where
  pub low_seen : within lowest_setpoint (pos 0) low ≡ true → within lowest_setpoint (pos 0) (seen low) ≡ true
  low_seen h = rw (to_z-of_z fl) h

  pub short_seen : {z : ℤ} {n : ℕ} → (within lowest_setpoint (pos 0) low ≡ true) × (n ≤ 32767) → z ≡ decoded (seen low) n → to_z w16 (of_z w16 z) ≡ decoded (seen low) n
  short_seen h e = to_z-of_z (short_fits fl h (short_same fl h e)) ∙ e

  pub decoded_seen : (codes : List ℕ) (n : ℕ) (first out : List ℤ) → out ≡ written (λ k. decoded (seen low) (get_or codes k 0)) n first
      → out ≡ written (λ k. decoded low (get_or codes k 0)) n first
  decoded_seen codes n first out e = rw (to_z-of_z fl) at e
