-- Demand 1 at a cut holds.
use Rattle.std.specs.Prelude.{None, Option, Some}
use mathlib.Core.Path.{◌≡◌, refl, sym, ◌∙◌}
use mathlib.Core.Bool.{Bool, true, false, cond, true≢false}
use mathlib.Core.List.{List}
use Prim.Native.Nat.{ℕ}
use native.Mathlib.Omega.{arith}
use lib.IntN.{ℤ}
use lib.Dec.{eqb, ltb}
use lib.ListN.{length}
use Rattle.limits.specs.Limits.{lowest_point, highest_point, lowest_total, highest_total}
use Rattle.base_codes.specs.Code.{within}
use Rattle.theory_method.specs.Filter.{Tight}
use Rattle.session.specs.declared.Session.{Session}
use Rattle.session_cuts.specs.declared.Cut.{Cut}
use Rattle.session_cuts.specs.declared.Cut.TheVariants.{DayFloor, DayCeiling, TotalFloor, TotalCeiling}
use Rattle.session_cutting.specs.Cutting.{day_cut_refusal, total_cut_refusal, malformed, early_cutting, clipped, retightened, refusing, tightened_to, after_cut, after_numbered}
use Rattle.session_cutting.proofs.Laws.{passed, refused-same, accepted, refused-list}
use Rattle.promises.specs.Demands.{Leaves, Demand1}
use Rattle.promises.proofs.Changed.{cut-changes}

never_8 : (placed in_bounds : Bool) (otherwise outside : ℕ) → (otherwise ≡ 8 → ⊥) → (outside ≡ 8 → ⊥) → cond placed (cond in_bounds 0 outside) otherwise ≡ 8 → ⊥
never_8 true true otherwise outside m k e = omega arith
never_8 true false otherwise outside m k e = k e
never_8 false in_bounds otherwise outside m k e = m e

day_never_8 : (n day : ℕ) (value : ℤ) → day_cut_refusal n day value ≡ 8 → ⊥
day_never_8 n day value = never_8 (ltb day n) (within lowest_point highest_point value) 7 3 (λ e. omega arith) (λ e. omega arith)

total_never_8 : (day : ℕ) (value : ℤ) → total_cut_refusal day value ≡ 8 → ⊥
total_never_8 day value = never_8 (eqb day 0) (within lowest_total highest_total value) 12 5 (λ e. omega arith) (λ e. omega arith)

malformed_never_8 : (n : ℕ) (c : Cut) → malformed n c ≡ 8 → ⊥
malformed_never_8 n (DayFloor day value) = day_never_8 n day value
malformed_never_8 n (DayCeiling day value) = day_never_8 n day value
malformed_never_8 n (TotalFloor day value) = total_never_8 day value
malformed_never_8 n (TotalCeiling day value) = total_never_8 day value

pub earlier_never_8 : (s : Session) (c : Cut) (room : ℕ) → early_cutting s c room ≡ 8 → ⊥
unfolding early_cutting
earlier_never_8 s c room = go (eqb (malformed s.days c) 0) (ltb room s.days) s.spent
  where
    go : (a b d : Bool) → cond a (cond b 2 (cond d 9 0)) (malformed s.days c) ≡ 8 → ⊥
    go true true d e = omega arith
    go true false true e = omega arith
    go true false false e = omega arith
    go false b d e = malformed_never_8 s.days c e

module _ (s : Session) (l : List ℕ) where
  stays : (number : ℕ) → (number ≡ 8 → ⊥) → Leaves s l (refusing number s)
  stays number other = record {
    list = refused-list s (refusing number s) l;
    session = λ _ _. refl;
    eight = (λ e. absurd (other e), λ h. absurd (true≢false (sym h.1 ∙ h.0)));
  }

  tightens : (t : Tight) → s.spent ≡ false → Leaves s l (tightened_to s t)
  tightens t u = go t.found refl
    where
      go : (b : Bool) → t.found ≡ b → Leaves s l (tightened_to s t)
      go true e = rw e (record {
        list = λ h. absurd (h refl);
        session = λ h _. absurd (h refl);
        eight = (λ z. absurd (omega arith), λ h. absurd (true≢false (sym h.1 ∙ h.0)));
      })
      go false e = rw e (record {
        list = refused-list s _ l;
        session = λ _ h. absurd (h refl);
        eight = (λ _. (u, refl), λ _. refl);
      })

  leaves : (t : Option Cut) → Leaves s l (after_numbered s t (length l))
  unfolding after_numbered
  leaves None = stays 12 (λ e. omega arith)
  leaves (Some c) = go (eqb (early_cutting s c room) 0) refl
    where
      room : ℕ
      room = length l

      go : (b : Bool) → eqb (early_cutting s c room) 0 ≡ b → Leaves s l (after_cut s c room)
      go true e = rw (accepted s c room e) (tightens (retightened s (clipped s.present c)) (passed s c room e).unspent)
      go false e = rw (refused-same s c room e) (stays (early_cutting s c room) (earlier_never_8 s c room))

pub demand_1 : Demand1
demand_1 = record { refused = λ s t l. leaves s l t; accepted = cut-changes }
