-- What opening hands back: its refusal, and a session whose numbers are in bounds.
use mathlib.Core.Path.{◌≡◌, refl, ◌∙◌}
use mathlib.Core.Bool.{Bool, true, false, cond}
use Prim.Native.Nat.{ℕ, ◌≤◌, ◌<◌}
use native.Mathlib.Omega.{arith}
use lib.IntN.{pos}
use lib.Dec.{eqb}
use lib.ListN.{length-replicate, get_or-replicate}
use borrow.Author.Tests.{eqb-true}
use Rattle.limits.specs.Limits.{lowest_point}
use Rattle.theory_lists.specs.Sum.{at}
use Rattle.theory_lists.specs.Written.{written, length-written, written_below}
use Rattle.base_codes.specs.Code.{code}
use Rattle.theory_method.specs.Filter.{zeros}
use Rattle.theory_method.proofs.Exact.{exact, exact_in_bounds}
use Rattle.session.specs.Profile.{Profile}
use Rattle.session.specs.Opening.{box_in, early_opening, bad_count, bad_length, bad_point, bad_rise, bad_total, bad_range, bad_first, opened, opened_with, refused_with, narrowed, all_zero}
use Rattle.session.specs.Showing.{Fits, SessionInBounds}
use Rattle.session.proofs.Entered.{entered, codes-bounds}

-- ---- its refusal

pub early_not_8 : (p : Profile) → early_opening p ≡ 8 → ⊥
unfolding early_opening
early_not_8 p = go (bad_count p) (bad_length p) (bad_point p) (bad_rise p) (bad_total p) (bad_range p) (bad_first p)
  where
    go : (a b c d e f g : Bool) → cond {A = ℕ} a 1 (cond b 2 (cond c 3 (cond d 4 (cond e 5 (cond f 6 (cond g 13 0)))))) ≡ 8 → ⊥
    go true b c d e f g h = omega arith
    go false true c d e f g h = omega arith
    go false false true d e f g h = omega arith
    go false false false true e f g h = omega arith
    go false false false false true f g h = omega arith
    go false false false false false true g h = omega arith
    go false false false false false false true h = omega arith
    go false false false false false false false h = omega arith

-- other than 8 it is what the checks before 8 say
pub opened-refusal : (p : Profile) → ((opened p).refusal ≡ 8 → ⊥) → (opened p).refusal ≡ early_opening p
unfolding opened
opened-refusal p h = go (eqb (early_opening p) 0) (narrowed p).found refl refl
  where
    go : (early found : Bool) → eqb (early_opening p) 0 ≡ early → (narrowed p).found ≡ found → (opened p).refusal ≡ early_opening p
    go true true e f = rw (e, f) (omega (arith, eqb-true (early_opening p) 0 e))
    go true false e f = absurd (h (rw (e, f) refl))
    go false found e f = rw e refl

-- ---- its session

one-day : Fits zeros 1 0 all_zero
one-day =
    let wide = length-written (λ (k : ℕ). code lowest_point (pos 0)) 1 zeros ∙ length-replicate {A = ℕ} 512 0 in
    let first : (k : ℕ) → k < 1 → at (written (λ (j : ℕ). code lowest_point (pos 0)) 1 zeros) k ≤ 5000 =
    λ k h. omega (arith, written_below (λ (j : ℕ). code lowest_point (pos 0)) 0 1 zeros k h (omega (arith, length-replicate {A = ℕ} 512 0))) in
    record {
      counts = omega arith;
      most = omega arith;
      floors = wide;
      ceilings = wide;
      rises = length-replicate {A = ℕ} 512 0;
      floor = first;
      ceiling = first;
      rise = λ k h. omega (arith, get_or-replicate {A = ℕ} 512 k 0 0 (omega arith));
      lowest = omega arith;
      highest = omega arith;
    }

refused_in_bounds : (number : ℕ) → SessionInBounds (refused_with number).session
refused_in_bounds number = record { opened = one-day; present = one-day }

pub opened_in_bounds : (p : Profile) → SessionInBounds (opened p).session
unfolding opened
opened_in_bounds p = go (eqb (early_opening p) 0) (narrowed p).found refl refl
  where
    go : (early found : Bool) → eqb (early_opening p) 0 ≡ early → (narrowed p).found ≡ found
        → SessionInBounds (cond early (opened_with (box_in p) (narrowed p)) (refused_with (early_opening p))).session
    go true true e f =
        let d = entered p (eqb-true (early_opening p) 0 e) in
        let b = exact_in_bounds (exact (codes-bounds p d) f) (codes-bounds p d) in
        rw f (record { opened = b; present = b })
    go true false e f = rw f (refused_in_bounds 8)
    go false found e f = refused_in_bounds (early_opening p)
