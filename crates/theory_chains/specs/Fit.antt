-- The greatest number up to a bound whose cost is within a margin.
use Rattle.std.specs.Prelude.{◌≡◌, refl, Bool, cond, leb}
use Rattle.std.proofs.Math.Bool.{true, false}
use Prim.Native.Nat.{ℕ, zero, suc, ◌+◌, ◌-◌, ◌≤◌, ◌<◌}
use Rattle.std.proofs.Math.Nat.{le_refl}
use Rattle.std.proofs.Common.{arith, leb-true, leb-false}
use Rattle.std.proofs.Math.Decide.{dec_lt, ℕ_discrete}

-- of the numbers from low to low + d the greatest whose cost is within the margin, or low
unfoldable pub fit_from : (ℕ → ℕ) → ℕ → ℕ → ℕ → ℕ
fit_from cost margin low zero = low
fit_from cost margin low (suc d) = cond (leb (cost (low + suc d)) margin) (low + suc d) (fit_from cost margin low d)

-- the same, from low to b
abbrev pub fit : (ℕ → ℕ) → ℕ → ℕ → ℕ → ℕ
fit cost margin low b = fit_from cost margin low (b - low)

-- v is the greatest level from low to b whose cost is within the margin
pub record Fitted (cost : ℕ → ℕ) (margin low b v : ℕ) : Type 0 where
  pub least : low ≤ v
  pub most : v ≤ b
  pub within : cost v ≤ margin
  pub past : (u : ℕ) → v < u → u ≤ b → margin < cost u

module _ (cost : ℕ → ℕ) (margin low : ℕ) (start : cost low ≤ margin) where
  from-fitted : (d : ℕ) → Fitted cost margin low (low + d) (fit_from cost margin low d)
  unfolding fit_from
  from-fitted zero = record { least = le_refl low; most = omega arith; within = start; past = λ u l m. absurd (omega arith) }
  from-fitted (suc d) = go (leb (cost (low + suc d)) margin) (leb-true (cost (low + suc d)) margin) (leb-false (cost (low + suc d)) margin) (from-fitted d)
    where
      go : (t : Bool) → (t ≡ true → cost (low + suc d) ≤ margin) → (t ≡ false → margin < cost (low + suc d))
          → Fitted cost margin low (low + d) (fit_from cost margin low d) → Fitted cost margin low (low + suc d) (cond t (low + suc d) (fit_from cost margin low d))
      go true in-margin over before = record { least = omega arith; most = le_refl (low + suc d); within = in-margin refl; past = λ u l m. absurd (omega arith) }
      go false in-margin over before =
          record {
            least = before.least;
            most = omega (arith, before.most);
            within = before.within;
            past = λ u l m. at u l m (ℕ_discrete u (low + suc d));
          }
        where
          at : (u : ℕ) → fit_from cost margin low d < u → u ≤ low + suc d → Dec (u ≡ low + suc d) → margin < cost u
          at u l m (yes e) = rw e (over refl)
          at u l m (no e) = before.past u l (omega arith)

  pub fitted : (b : ℕ) → low ≤ b → Fitted cost margin low b (fit cost margin low b)
  fitted b h = let e : low + (b - low) ≡ b = omega arith in rw e at (from-fitted (b - low))

-- there is one
pub fitted-one : {cost : ℕ → ℕ} {margin low b v w : ℕ} → Fitted cost margin low b v → Fitted cost margin low b w → v ≡ w
fitted-one {cost} {margin} {low} {b} {v} {w} f g = go (dec_lt v w) (dec_lt w v)
  where
    go : Dec (v < w) → Dec (w < v) → v ≡ w
    go (yes l) d = absurd (omega (arith, f.past w l g.most, g.within))
    go (no l) (yes m) = absurd (omega (arith, g.past v m f.most, f.within))
    go (no l) (no m) = omega arith

-- the same of equal costs and bounds
pub fitted-same : {cost cost' : ℕ → ℕ} {margin margin' low low' b b' v : ℕ} → Fitted cost margin low b v
    → ((u : ℕ) → cost u ≡ cost' u) → margin ≡ margin' → low ≡ low' → b ≡ b' → Fitted cost' margin' low' b' v
fitted-same {v = v} f same e g h =
    record {
      least = omega (arith, f.least);
      most = omega (arith, f.most);
      within = omega (arith, f.within, same v);
      past = λ u l m. omega (arith, f.past u l (omega arith), same u);
    }

-- where costs are the same at u and u' with u + e ≡ u' + f, and the bounds are so apart, the greatest levels are too
pub fitted_moved : {cost cost' : ℕ → ℕ} {margin low low' b b' v v' : ℕ} (e f : ℕ) → Fitted cost margin low b v → Fitted cost' margin low' b' v'
    → ((u u' : ℕ) → u + e ≡ u' + f → cost u ≡ cost' u') → b + e ≡ b' + f → v + e ≡ v' + f
fitted_moved {margin = margin} {v = v} {v' = v'} e f one two same top = go (dec_lt (v + e) (v' + f)) (dec_lt (v' + f) (v + e))
  where
    go : Dec (v + e < v' + f) → Dec (v' + f < v + e) → v + e ≡ v' + f
    go (yes l) d = let u : ℕ = v' + f - e in absurd (omega (arith, one.past u (omega arith) (omega (arith, two.most)), same u v' (omega arith), two.within))
    go (no l) (yes m) = let u : ℕ = v + e - f in absurd (omega (arith, two.past u (omega arith) (omega (arith, one.most)), same v u (omega arith), one.within))
    go (no l) (no m) = omega arith
