-- Writing by what its tests found: a value checked by a session's present range, the levels that are written for it, and a law for each return.
use mathlib.Core.Path.{◌≡◌, ap, sym, ◌∙◌}
use mathlib.Core.List.{List}
use Prim.Native.Nat.{ℕ, ◌≤◌, ◌<◌}
use native.Mathlib.Omega.{arith}
use lib.IntN.{ℤ}
use lib.ListN.{length}
use borrow.Author.Tests.{eq-eqb, ne_eqb, lt-ltb, le-ltb}
use Rattle.limits.specs.Limits.{lowest_point, lowest_total}
use Rattle.theory_lists.specs.Sum.{at}
use Rattle.theory_lists.specs.Written.{written, written_same}
use Rattle.base_codes.specs.Code.{decoded}
use Rattle.base_codes.proofs.Laws.{point_less, total_less}
use Rattle.theory_method.specs.Filter.{box, InBounds}
use Rattle.theory_method.proofs.Levels.{refit}
use Rattle.session.specs.Showing.{SessionInBounds}
use Rattle.theory_lists.specs.Lent.{list_left, list-filled}
use Rattle.session.specs.declared.Session.{Session}
use Rattle.schedule_raising.specs.Raising.{raised_to}
use Rattle.schedule_writing.specs.Writing.{day_write_refusal, total_write_refusal, levels_through, day_levels, total_levels, day_written, total_written}
use Rattle.schedule_writing.specs.Stages.{ValueChecked, refused_as, taken, day_checked, total_checked}
use Rattle.schedule_writing.proofs.Checks.{checked-refusal, taken-code, taken-most}
use Rattle.schedule_writing.proofs.Levels.{Standing, raised_standing, through_standing}

-- ---- a session's ranges, and a value that was checked by them

-- the present ranges, with a total to raise to
pub present-bounds : {s : Session} {t : ℕ} → SessionInBounds s → t ≤ 2560000 → InBounds (box s.present.floors s.present.ceilings s.rises s.days s.first 0 t)
present-bounds bounds = let b = bounds.present in refit b b.floors b.ceilings b.floor b.ceiling (omega arith)

-- a value by the present range, which does not refuse it, and its code
pub record DayTaken (s : Session) (day : ℕ) (value : ℤ) (code : ℕ) : Type 0 where
  pub bounds : SessionInBounds s
  pub known : day < s.days
  pub right : taken code ≡ day_checked s day value

pub record TotalTaken (s : Session) (value : ℤ) (code : ℕ) : Type 0 where
  pub bounds : SessionInBounds s
  pub right : taken code ≡ total_checked s value

-- so it is what writing asks for, and the levels written are the schedule's
module _ {s : Session} {day : ℕ} {value : ℤ} {code : ℕ} (d : DayTaken s day value code) where
  pub day_asks : InBounds (box s.present.floors s.present.ceilings s.rises s.days s.first 0 s.present.lowest) × (day < s.days) × (code ≤ 5000)
  day_asks =
      let b = d.bounds.present in (
        present-bounds d.bounds b.lowest,
        d.known,
        omega (arith, taken-most lowest_point value _ _ _ d.right 1000 point_less, b.ceiling day d.known),
      )

  pub day_standing : {out : List ℕ} → out ≡ written (levels_through s.present.floors s.present.ceilings s.rises s.days s.first s.present.lowest day code) s.days s.present.floors
      → Standing (day_levels s day value) s.days out
  unfolding day_levels
  day_standing e = rw (← taken-code lowest_point value _ _ _ d.right) (through_standing day_asks.0 d.known day_asks.2 e)

module _ {s : Session} {value : ℤ} {code : ℕ} (d : TotalTaken s value code) where
  pub total_asks : InBounds (box s.present.floors s.present.ceilings s.rises s.days s.first 0 code)
  total_asks = present-bounds d.bounds (omega (arith, taken-most lowest_total value _ _ _ d.right 512000 total_less, d.bounds.present.highest))

  pub total_standing : {out : List ℕ} → out ≡ written (raised_to s.present.floors s.present.ceilings s.rises s.days s.first code) s.days s.present.floors
      → Standing (total_levels s value) s.days out
  unfolding total_levels
  total_standing e = rw (← taken-code lowest_total value _ _ _ d.right) (raised_standing total_asks e)

-- the number that is given for it, where the list is n long and the day in the profile
module _ (s : Session) (value : ℤ) {q : ValueChecked} {room : ℕ} (long : room ≡ s.days) where
  pub day-refusal : (day : ℕ) → day < s.days → q ≡ day_checked s day value → q.refusal ≡ day_write_refusal s day value room
  unfolding day_write_refusal
  day-refusal day known e =
      rw (eq-eqb room s.days long, lt-ltb day s.days known)
      (ap (λ c. c.refusal) e ∙ checked-refusal lowest_point value (at s.present.floors day) (at s.present.ceilings day) s.spent)

  pub total-refusal : q ≡ total_checked s value → q.refusal ≡ total_write_refusal s value room
  unfolding total_write_refusal
  total-refusal e =
      rw (eq-eqb room s.days long) (ap (λ c. c.refusal) e ∙ checked-refusal lowest_total value s.present.lowest s.present.highest s.spent)

-- ---- write_day: the number and the list at each return

-- levels that stand in an array, as points
shown : {x : ℕ → ℕ} {n : ℕ} {out : List ℕ} → Standing x n out → (l : List ℤ) → written (λ k. decoded lowest_point (at out k)) n l ≡ written (λ k. decoded lowest_point (x k)) n l
shown d l = written_same _ _ _ l (λ k h. ap (decoded lowest_point) (d.here k h))

abbrev DayAnswer : Session → ℕ → ℤ → List ℤ → ℕ → List ℤ → Type 0
DayAnswer s day value l r l' = (r ≡ day_write_refusal s day value (length l)) × (l' ≡ day_written s day value l)

module _ (s : Session) (day : ℕ) (value : ℤ) (l : List ℤ) where
  day-left : {r : ℕ} → r ≡ day_write_refusal s day value (length l) → (r ≡ 0 → ⊥) → DayAnswer s day value l r l
  unfolding day_written
  day-left e apart = (e, sym (list_left _ _ s.days l (λ z. apart (e ∙ z))))

  pub day-length : (length l ≡ s.days → ⊥) → DayAnswer s day value l 2 l
  unfolding day_write_refusal
  day-length h = day-left (rw (ne_eqb (length l) s.days h)) (λ z. absurd (omega arith))

  pub day_unknown : length l ≡ s.days → s.days ≤ day → DayAnswer s day value l 7 l
  unfolding day_write_refusal
  day_unknown h u = day-left (rw (eq-eqb (length l) s.days h, le-ltb day s.days u)) (λ z. absurd (omega arith))

  module _ (long : length l ≡ s.days) where
    pub day-refused : day < s.days → {number : ℕ} → refused_as number ≡ day_checked s day value → (number ≡ 0 → ⊥) → DayAnswer s day value l number l
    day-refused known e = day-left (day-refusal s value long day known e)

    pub day-written : {code : ℕ} → DayTaken s day value code → {out : List ℕ} {l' : List ℤ} → Standing (day_levels s day value) s.days out
        → l' ≡ written (λ k. decoded lowest_point (at out k)) s.days l → DayAnswer s day value l 0 l'
    unfolding day_written
    day-written d e w =
        let z : 0 ≡ day_write_refusal s day value (length l) = day-refusal s value long day d.known d.right in
        (z, w ∙ shown e l ∙ sym (list-filled _ _ s.days l (sym z)))

-- ---- write_total: the same

abbrev TotalAnswer : Session → ℤ → List ℤ → ℕ → List ℤ → Type 0
TotalAnswer s value l r l' = (r ≡ total_write_refusal s value (length l)) × (l' ≡ total_written s value l)

module _ (s : Session) (value : ℤ) (l : List ℤ) where
  total_left : {r : ℕ} → r ≡ total_write_refusal s value (length l) → (r ≡ 0 → ⊥) → TotalAnswer s value l r l
  unfolding total_written
  total_left e apart = (e, sym (list_left _ _ s.days l (λ z. apart (e ∙ z))))

  pub total-length : (length l ≡ s.days → ⊥) → TotalAnswer s value l 2 l
  unfolding total_write_refusal
  total-length h = total_left (rw (ne_eqb (length l) s.days h)) (λ z. absurd (omega arith))

  module _ (long : length l ≡ s.days) where
    pub total-refused : {number : ℕ} → refused_as number ≡ total_checked s value → (number ≡ 0 → ⊥) → TotalAnswer s value l number l
    total-refused e = total_left (total-refusal s value long e)

    pub total-written : {code : ℕ} → TotalTaken s value code → {out : List ℕ} {l' : List ℤ} → Standing (total_levels s value) s.days out
        → l' ≡ written (λ k. decoded lowest_point (at out k)) s.days l → TotalAnswer s value l 0 l'
    unfolding total_written
    total-written d e w =
        let z : 0 ≡ total_write_refusal s value (length l) = total-refusal s value long d.right in
        (z, w ∙ shown e l ∙ sym (list-filled _ _ s.days l (sym z)))
