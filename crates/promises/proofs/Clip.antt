-- A well-formed cut in codes: levels within clipped ranges are those within the ranges that keep the cut.
use mathlib.Core.Path.{◌≡◌, refl}
use mathlib.Core.Logic.{◌↔◌}
use mathlib.Core.List.{List}
use Prim.Native.Nat.{ℕ, ◌≤◌, ◌<◌, min, max}
use native.Mathlib.Omega.{arith}
use lib.IntN.{ℤ}
use lib.ListN.{length}
use lib.Signed.{◌≤ℤ◌}
use lib.Seq.{get_or-set_same, get_or-set_other}
use borrow.Author.Tests.{eq-eqb, lt-ltb}
use Rattle.limits.specs.Limits.{lowest_point, highest_point, lowest_total, highest_total}
use Rattle.theory_lists.specs.Sum.{at}
use Rattle.theory_lists.specs.Written.{by_cell}
use Rattle.base_codes.specs.Code.{code}
use Rattle.base_codes.proofs.Laws.{within-yes}
use Rattle.theory_method.specs.Filter.{held}
use Rattle.theory_method.proofs.Levels.{rebound}
use Rattle.session.specs.Profile.{Profile}
use Rattle.session.proofs.Within.{Within}
use Rattle.session.specs.declared.Ranges.{Ranges}
use Rattle.session_cuts.specs.declared.Cut.{Cut}
use Rattle.session_cuts.specs.declared.Cut.TheVariants.{DayFloor, DayCeiling, TotalFloor, TotalCeiling}
use Rattle.session_cutting.specs.Cutting.{day_cut_refusal, total_cut_refusal, malformed, clipped}
use Rattle.session_cutting.proofs.Laws.{day-formed, total-formed}
use Rattle.promises.specs.Cuts.{WellFormed}

-- n days' levels keep a cut
abbrev pub KeepsLevels : ℕ → ℕ → Cut → (ℕ → ℕ) → Type 0
KeepsLevels n first (DayFloor day value) x = code lowest_point value ≤ x day
KeepsLevels n first (DayCeiling day value) x = x day ≤ code lowest_point value
KeepsLevels n first (TotalFloor day value) x = code lowest_total value ≤ held n first x
KeepsLevels n first (TotalCeiling day value) x = held n first x ≤ code lowest_total value

-- a cut is well-formed where the checks 12, 7, 3 and 5 find nothing
day_well : (n d : ℕ) (v : ℤ) → day_cut_refusal n d v ≡ 0 → (d < n) × (lowest_point ≤ℤ v) × (v ≤ℤ highest_point)
day_well n d v e = let f = day-formed n d v e in let w = (within-yes lowest_point highest_point v).0 f.1 in (f.0, w.0, w.1)

total_well : (d : ℕ) (v : ℤ) → total_cut_refusal d v ≡ 0 → (d ≡ 0) × (lowest_total ≤ℤ v) × (v ≤ℤ highest_total)
total_well d v e = let f = total-formed d v e in let w = (within-yes lowest_total highest_total v).0 f.1 in (f.0, w.0, w.1)

day_right : (n d : ℕ) (v : ℤ) → (d < n) × (lowest_point ≤ℤ v) × (v ≤ℤ highest_point) → day_cut_refusal n d v ≡ 0
day_right n d v w = rw (lt-ltb d n w.0, (within-yes lowest_point highest_point v).1 (w.1, w.2)) refl

total_right : (d : ℕ) (v : ℤ) → (d ≡ 0) × (lowest_total ≤ℤ v) × (v ≤ℤ highest_total) → total_cut_refusal d v ≡ 0
total_right d v w = rw (eq-eqb d 0 w.0, (within-yes lowest_total highest_total v).1 (w.1, w.2)) refl

pub well_formed : (p : Profile) (c : Cut) → (malformed p.days c ≡ 0) ↔ WellFormed p c
well_formed p (DayFloor d v) = (day_well p.days d v, day_right p.days d v)
well_formed p (DayCeiling d v) = (day_well p.days d v, day_right p.days d v)
well_formed p (TotalFloor d v) = (total_well d v, total_right d v)
well_formed p (TotalCeiling d v) = (total_well d v, total_right d v)

-- ranges of the profile's days, in arrays of 512
pub record InArrays (p : Profile) (r : Ranges) : Type 0 where
  pub few : p.days ≤ 512
  pub floors : length r.floors ≡ 512
  pub ceilings : length r.ceilings ≡ 512

module _ (p : Profile) (rs : List ℕ) (r : Ranges) (z : InArrays p r) where
  pub to_clipped : (c : Cut) → WellFormed p c → (x : ℕ → ℕ) → Within rs p.days p.first r x → KeepsLevels p.days p.first c x → Within rs p.days p.first (clipped r c) x
  unfolding clipped
  to_clipped (DayFloor d v) h x l keeps =
      let w : ℕ = max (at r.floors d) (code lowest_point v) in
      rebound l (λ k b. by_cell (λ j a. a ≤ x j) 0 r.floors d w (omega (arith, h.0)) (omega (arith, l.floor d h.0)) k (l.floor k b)) l.ceiling l.least l.most
  to_clipped (DayCeiling d v) h x l keeps =
      let w : ℕ = min (at r.ceilings d) (code lowest_point v) in
      rebound l l.floor (λ k b. by_cell (λ j a. x j ≤ a) 0 r.ceilings d w (omega (arith, h.0)) (omega (arith, l.ceiling d h.0)) k (l.ceiling k b)) l.least l.most
  to_clipped (TotalFloor d v) h x l keeps = rebound l l.floor l.ceiling (omega (arith, l.least)) l.most
  to_clipped (TotalCeiling d v) h x l keeps = rebound l l.floor l.ceiling l.least (omega (arith, l.most))

  pub of_clipped : (c : Cut) → WellFormed p c → (x : ℕ → ℕ) → Within rs p.days p.first (clipped r c) x → Within rs p.days p.first r x × KeepsLevels p.days p.first c x
  unfolding clipped
  of_clipped (DayFloor d v) h x l =
      let w : ℕ = max (at r.floors d) (code lowest_point v) in (
        rebound l (λ k b. by_cell (λ j a. a ≤ x j → at r.floors j ≤ x j) 0 r.floors d w (omega (arith, h.0)) (λ u. omega arith) k (λ u. u) (l.floor k b)) l.ceiling l.least l.most,
        omega (arith, get_or-set_same r.floors d w 0 (omega (arith, h.0)), l.floor d h.0),
      )
  of_clipped (DayCeiling d v) h x l =
      let w : ℕ = min (at r.ceilings d) (code lowest_point v) in (
        rebound l l.floor (λ k b. by_cell (λ j a. x j ≤ a → x j ≤ at r.ceilings j) 0 r.ceilings d w (omega (arith, h.0)) (λ u. omega arith) k (λ u. u) (l.ceiling k b)) l.least l.most,
        omega (arith, get_or-set_same r.ceilings d w 0 (omega (arith, h.0)), l.ceiling d h.0),
      )
  of_clipped (TotalFloor d v) h x l = (rebound l l.floor l.ceiling (omega (arith, l.least)) l.most, omega (arith, l.least))
  of_clipped (TotalCeiling d v) h x l = (rebound l l.floor l.ceiling l.least (omega (arith, l.most)), omega (arith, l.most))

-- a cut leaves what lies past the last day
pub clipped-past : (p : Profile) (r : Ranges) (c : Cut) → WellFormed p c → (k : ℕ) → p.days ≤ k
    → (at (clipped r c).floors k ≡ at r.floors k) × (at (clipped r c).ceilings k ≡ at r.ceilings k)
unfolding clipped
clipped-past p r (DayFloor d v) w k h = (get_or-set_other r.floors d k _ 0 (omega (arith, w.0)), refl)
clipped-past p r (DayCeiling d v) w k h = (refl, get_or-set_other r.ceilings d k _ 0 (omega (arith, w.0)))
clipped-past p r (TotalFloor d v) w k h = (refl, refl)
clipped-past p r (TotalCeiling d v) w k h = (refl, refl)
