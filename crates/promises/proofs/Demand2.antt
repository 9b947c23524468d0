-- Demand 2 at opening holds.
use mathlib.Core.Path.{◌≡◌, refl}
use mathlib.Core.Bool.{Bool, true, false, cond}
use mathlib.Core.Logic.{◌↔◌}
use mathlib.Core.List.{List}
use Prim.Native.Nat.{◌-◌}
use native.Mathlib.Omega.{arith}
use lib.IntN.{ℤ}
use lib.Dec.{eqb}
use lib.Signed.{≤ℤ_refl}
use borrow.Author.Tests.{eqb-true, eqb-false}
use Rattle.limits.specs.Limits.{lowest_rise}
use Rattle.theory_lists.specs.Sum.{at}
use Rattle.theory_method.proofs.Exact.{none, exact}
use Rattle.session.specs.Profile.{Profile, Schedule, total}
use Rattle.session.specs.Opening.{early_opening, opened, refused_with, narrowed, codes, fresh, ranges_of, Opened}
use Rattle.promises.specs.Demands.{Exact, Demand2}
use Rattle.session.proofs.Entered.{Entered, entered, codes-bounds}
use Rattle.session.proofs.SessionBounds.{early_not_8}
use Rattle.promises.proofs.Bridge.{CodesOf, coding, codes_of, schedule_of, exact_points}

module _ (p : Profile) (d : Entered p) where
  opens : (narrowed p).found ≡ true → Exact p (Schedule p) (fresh p.days p.first (codes lowest_rise p.rises (p.days - 1)) (ranges_of (narrowed p)))
  opens e =
      let t = exact (codes-bounds p d) e in
      exact_points p d (Schedule p) (CodesOf p d) (record { schedule = λ x h. h; to = codes_of (coding p d); of = schedule_of p d }) _ t.day t.total

  no_schedule : (narrowed p).found ≡ false → (x : List ℤ) → Schedule p x → ⊥
  no_schedule e x h = none (codes-bounds p d) e _ (codes_of (coding p d) x h)

-- opening by its two tests
abbrev outcome : Profile → Bool → Bool → Opened
outcome p early found =
    cond early (cond found (record { refusal = 0; session = fresh p.days p.first (codes lowest_rise p.rises (p.days - 1)) (ranges_of (narrowed p)) }) (refused_with 8))
    (refused_with (early_opening p))

-- what an opening that is not refused says of the profile
pub record Unrefused (p : Profile) : Type 0 where
  pub early : early_opening p ≡ 0
  pub found : (narrowed p).found ≡ true
  pub session : (opened p).session ≡ fresh p.days p.first (codes lowest_rise p.rises (p.days - 1)) (ranges_of (narrowed p))

pub unrefused : (p : Profile) → (opened p).refusal ≡ 0 → Unrefused p
unfolding opened
unrefused p = go (eqb (early_opening p) 0) (narrowed p).found refl refl
  where
    go : (early found : Bool) → eqb (early_opening p) 0 ≡ early → (narrowed p).found ≡ found → (opened p).refusal ≡ 0 → Unrefused p
    go true true e f z = record { early = eqb-true (early_opening p) 0 e; found = f; session = rw (e, f) refl }
    go true false e f z = absurd (omega (arith, rw (e, f) at z))
    go false found e f z = absurd (eqb-false (early_opening p) 0 e (rw e at z))

refused : (p : Profile) (early found : Bool) → eqb (early_opening p) 0 ≡ early → (narrowed p).found ≡ found
    → ((outcome p early found).refusal ≡ 8) ↔ (early_opening p ≡ 0) × ((x : List ℤ) → Schedule p x → ⊥)
refused p true true e f =
    let z : early_opening p ≡ 0 = eqb-true (early_opening p) 0 e in
    let day = (opens p (entered p z) f).sum in
    let some = day.taken _ (≤ℤ_refl _) day.some in
    (λ h. absurd (omega arith), λ w. absurd (w.1 some.0 some.1))
refused p true false e f =
    let z : early_opening p ≡ 0 = eqb-true (early_opening p) 0 e in
    (λ h. (z, no_schedule p (entered p z) f), λ w. refl)
refused p false found e f = (λ h. absurd (early_not_8 p h), λ w. absurd (eqb-false (early_opening p) 0 e w.0))

pub demand_2 : Demand2
unfolding opened
demand_2 = record {
  opening = λ p z. let u = unrefused p z in rw u.session (opens p (entered p u.early) u.found);
  none = λ p. refused p (eqb (early_opening p) 0) (narrowed p).found refl refl;
}
