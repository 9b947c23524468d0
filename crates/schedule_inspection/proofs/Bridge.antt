-- The tests over codes are those over integers, and so is what they find.
use mathlib.Core.Path.{◌≡◌, refl, ap, ◌∙◌}
use mathlib.Core.Bool.{Bool, true, false, not, ◌&&◌, ◌||◌}
use mathlib.Core.List.{List}
use Prim.Native.Nat.{ℕ, ◌+◌, ◌-◌, ◌*◌, ◌≤◌, ◌<◌}
use native.Mathlib.Omega.{arith}
use lib.IntN.{ℤ, ◌+ℤ◌}
use lib.Dec.{ltb}
use lib.ListN.{length, length-replicate}
use Rattle.limits.specs.Limits.{lowest_point, lowest_rise, lowest_total, lowest_setpoint, highest_setpoint}
use Rattle.theory_lists.specs.Sum.{at}
use Rattle.theory_lists.specs.Written.{written, written_below}
use Rattle.theory_lists.specs.First.{first-same}
use Rattle.theory_chains.specs.Sum.{sum}
use Rattle.theory_method.specs.Counted.{counted}
use Rattle.theory_method.specs.Filter.{zeros}
use Rattle.base_codes.specs.Code.{within, decoded, on, code_or_zero}
use Rattle.base_codes.proofs.Offset.{Less, less_shift, less_add}
use Rattle.base_codes.proofs.Laws.{point_less, rise_less, total_less, setpoint_less, decoded_less, within_less}
use Rattle.base_codes.proofs.Order.{less_test, within_test}
use Rattle.session.specs.Profile.{total}
use Rattle.session.proofs.Lists as Lists
use Rattle.session.specs.Showing.{floor_on, ceiling_on, rise_on, total_floor, total_ceiling}
use Rattle.session.specs.declared.Session.{Session}
use Rattle.schedule_inspection.specs.Inspecting.{broken_day, broken_rise, broken_total, judged}
use Rattle.schedule_inspection.specs.Stages.{outside, day_outside, fallen, total_outside, judged_codes}

neither : (a b : Bool) → not (not a && not b) ≡ (a || b)
neither true b = refl
neither false true = refl
neither false false = refl

-- a number over an offset is outside a range
outside_test : (low high z : ℤ) (m n x k : ℕ) → Less low m k → Less high n k → Less z x k → not (within low high z) ≡ outside m n x
outside_test low high z m n x k p q r = ap not (within_test low high z m n x k p q r) ∙ neither (ltb x m) (ltb n x)

-- a level over the offset of a setpoint, and a held total over its own and that of m setpoints
level : (v : ℕ) → Less (decoded lowest_point v) (v + 31768) 32768
level v = less_shift (decoded lowest_point v) v 1000 31768 (decoded_less lowest_point v 1000 point_less)

held : (m v : ℕ) → Less (decoded lowest_total v) (v + 32768 * m) (512000 + 32768 * m)
held m v = less_shift (decoded lowest_total v) v 512000 (32768 * m) (decoded_less lowest_total v 512000 total_less)

-- n setpoints f, and their codes where they are stored
pub setpoint_codes : (f : ℕ → ℤ) (n : ℕ) {xs : List ℕ} → n ≤ 512 → ((k : ℕ) → k < n → within lowest_setpoint highest_setpoint (f k) ≡ true)
    → xs ≡ written (λ k. code_or_zero lowest_setpoint highest_setpoint (f k)) n zeros → (k : ℕ) → k < n → Less (f k) (at xs k) 32768
setpoint_codes f n few inside e k h =
    rw (e, written_below (λ j. code_or_zero lowest_setpoint highest_setpoint (f j)) 0 n zeros k h (omega (arith, length-replicate {A = ℕ} 512 0)), inside k h)
    (within_less lowest_setpoint highest_setpoint (f k) 32768 setpoint_less (inside k h))

-- a list of n setpoints, and its codes
module _ (s : Session) (x : List ℤ) (xs : List ℕ) (whole : length x ≡ s.days) (setpoint : (k : ℕ) → k < s.days → Less (on x k) (at xs k) 32768) where
  day_test : (k : ℕ) → k < s.days → broken_day s x k ≡ day_outside xs s.present.floors s.present.ceilings k
  day_test k h =
      outside_test (floor_on s k) (ceiling_on s k) (on x k) (at s.present.floors k + 31768) (at s.present.ceilings k + 31768) (at xs k) 32768
      (level (at s.present.floors k)) (level (at s.present.ceilings k)) (setpoint k h)

  rise_test : (k : ℕ) → k < s.days - 1 → broken_rise s x k ≡ fallen xs s.rises k
  rise_test k h =
      less_test (on x (k + 1)) (on x k +ℤ rise_on s k) (at xs (k + 1) + 2000) (at xs k + at s.rises k) 34768
      (less_shift (on x (k + 1)) (at xs (k + 1)) 32768 2000 (setpoint (k + 1) (omega arith)))
      (less_add (on x k) (rise_on s k) (at xs k) (at s.rises k) 32768 2000 (setpoint k (omega arith)) (decoded_less lowest_rise (at s.rises k) 2000 rise_less))

  sum_less : Less (total s.first x) (sum (counted s.first s.days) s.days (at xs) + 512000) (512000 + 32768 * (s.days - s.first))
  sum_less =
      let count : ℕ = s.days - s.first in
      let here : Less (total s.first x) (sum (counted s.first s.days) s.days (at xs)) (count * 32768) =
      Lists.total_less s.first s.days x (at xs) 32768 whole setpoint in
      let both : count * 32768 + 512000 ≡ 512000 + 32768 * count = omega arith in
      rw both at (less_shift (total s.first x) (sum (counted s.first s.days) s.days (at xs)) (count * 32768) 512000 here)

  total_test : broken_total s x ≡ total_outside xs s.days s.first s.present.lowest s.present.highest
  total_test =
      let count : ℕ = s.days - s.first in
      outside_test (total_floor s) (total_ceiling s) (total s.first x) (s.present.lowest + 32768 * count) (s.present.highest + 32768 * count)
      (sum (counted s.first s.days) s.days (at xs) + 512000) (512000 + 32768 * count) (held count s.present.lowest) (held count s.present.highest) sum_less

  pub judged-codes : judged_codes xs s.present.floors s.present.ceilings s.rises s.days s.first s.present.lowest s.present.highest ≡ judged s x
  unfolding judged_codes judged
  judged-codes =
      rw (
        first-same (broken_day s x) (day_outside xs s.present.floors s.present.ceilings) s.days day_test,
        first-same (broken_rise s x) (fallen xs s.rises) (s.days - 1) rise_test,
        total_test,
      )
