-- What is written is a schedule of the session's present ranges and one of the profile that keeps every valid cut, with the value asked for.
use mathlib.Core.Path.{◌≡◌, refl, ap, sym, ◌∙◌}
use mathlib.Core.Bool.{Bool, true, false, cond, not}
use mathlib.Core.Logic.{◌↔◌}
use mathlib.Core.List.{List}
use Prim.Native.Nat.{ℕ, ◌-◌, ◌≤◌, ◌<◌}
use native.Mathlib.Omega.{arith}
use lib.IntN.{ℤ, pos}
use lib.Dec.{eqb, ltb}
use lib.ListN.{length}
use lib.Signed.{◌≤ℤ◌}
use borrow.Author.Tests.{eqb-true, eq-eqb, ltb-true, lt-ltb}
use Rattle.limits.specs.Limits.{lowest_point, lowest_total}
use Rattle.theory_lists.specs.Sum.{at}
use Rattle.theory_lists.specs.Written.{written, length-written, written_below}
use Rattle.base_codes.specs.Code.{within, code, decoded, on}
use Rattle.base_codes.proofs.Offset.{Less, less_same}
use Rattle.base_codes.proofs.Laws.{point_less, total_less, decoded_less, within-yes, within_no}
use Rattle.session.specs.Profile.{Profile, Schedule, total}
use Rattle.session.specs.Opening.{opened}
use Rattle.session.proofs.Entered.{Entered, entered}
use Rattle.session.specs.Showing.{floor_on, ceiling_on, total_floor, total_ceiling}
use Rattle.session.proofs.Within.{Within}
use Rattle.theory_lists.specs.Lent.{list_left, list-filled}
use Rattle.session.specs.declared.Session.{Session}
use Rattle.schedule_writing.specs.Writing.{day_write_refusal, total_write_refusal, day_levels, total_levels, day_written, total_written}
use Rattle.schedule_writing.proofs.Supported.{with_total, with_day}
use Rattle.promises.specs.Cuts.{CutCall, after}
use Rattle.promises.proofs.Bridge.{held_less, of_levels, between}
use Rattle.promises.proofs.Demand2.{unrefused}
use Rattle.promises.proofs.Reached.{Reached, present_coding, after_reached, present-kept}
use Rattle.promises.proofs.Inspected.{inspection}
use Rattle.promises.specs.Schedules.{present_profile, ScheduleFor, Writes, Ranged, Writing}

-- ---- the refusals

-- the checks in their order: the list's length, the day, spent, the range
abbrev first_of : Bool → Bool → Bool → Bool → ℕ
first_of long placed spent inside = cond (not long) 2 (cond (not placed) 7 (cond spent 9 (cond (not inside) 10 0)))

none_refuses : (a b c d : Bool) → first_of a b c d ≡ 0 → (a ≡ true) × (b ≡ true) × (c ≡ false) × (d ≡ true)
none_refuses true true false true e = (refl, refl, refl, refl)
none_refuses true true false false e = absurd (omega arith)
none_refuses true true true d e = absurd (omega arith)
none_refuses true false c d e = absurd (omega arith)
none_refuses false b c d e = absurd (omega arith)

range_refuses : (a b c d : Bool) → first_of a b c d ≡ 10 → (a ≡ true) × (b ≡ true) × (c ≡ false) × (d ≡ false)
range_refuses true true false false e = (refl, refl, refl, refl)
range_refuses true true false true e = absurd (omega arith)
range_refuses true true true d e = absurd (omega arith)
range_refuses true false c d e = absurd (omega arith)
range_refuses false b c d e = absurd (omega arith)

-- of the range's bounds and the checks before it, which say Before
ranged : {Before : Type 0} (a b c : Bool) (low v high : ℤ) → Before ↔ (a ≡ true) × (b ≡ true) × (c ≡ false) → Ranged (first_of a b c (within low high v)) Before low v high
ranged a b c low v high before = record {
  ten = (
    λ e. let t = range_refuses a b c (within low high v) e in (before.1 (t.0, t.1, t.2), (within_no low high v).0 t.3),
    λ w. let t = before.0 w.0 in rw (t.0, t.1, t.2, (within_no low high v).1 w.1) refl,
  );
  taken = (
    λ e.
        let t = none_refuses a b c (within low high v) e in
        let m = (within-yes low high v).0 t.3 in
        (before.1 (t.0, t.1, t.2), m.0, m.1),
    λ w. let t = before.0 w.0 in rw (t.0, t.1, t.2, (within-yes low high v).1 (w.1, w.2)) refl,
  );
}

day-ranged : (s : Session) (i : ℕ) (v : ℤ) (room : ℕ)
    → Ranged (day_write_refusal s i v room) ((room ≡ s.days) × (i < s.days) × (s.spent ≡ false)) (floor_on s i) v (ceiling_on s i)
unfolding day_write_refusal
day-ranged s i v room =
    ranged (eqb room s.days) (ltb i s.days) s.spent (floor_on s i) v (ceiling_on s i) (
      λ w. (eq-eqb room s.days w.0, lt-ltb i s.days w.1, w.2),
      λ t. (eqb-true room s.days t.0, ltb-true i s.days t.1, t.2),
    )

sum-ranged : (s : Session) (v : ℤ) (room : ℕ) → Ranged (total_write_refusal s v room) ((room ≡ s.days) × (s.spent ≡ false)) (total_floor s) v (total_ceiling s)
unfolding total_write_refusal
sum-ranged s v room =
    ranged (eqb room s.days) true s.spent (total_floor s) v (total_ceiling s) (
      λ w. (eq-eqb room s.days w.0, refl, w.1),
      λ t. (eqb-true room s.days t.0, t.2),
    )

-- ---- the list

-- a session that came from the profile by cuts and is not spent, and a list that is n long
record Writable (p : Profile) (d : Entered p) (hs : List CutCall) (s : Session) (l : List ℤ) : Type 0 where
  reached : Reached p d hs s
  unspent : s.spent ≡ false
  long : length l ≡ s.days

module _ (p : Profile) (d : Entered p) (hs : List CutCall) (s : Session) (l : List ℤ) (w : Writable p d hs s l) where
  -- levels within the present ranges, as points on the list
  module _ (c : ℕ → ℕ) (l' : Within s.rises s.days s.first s.present c) where
    abbrev x : List ℤ
    x = written (λ k. decoded lowest_point (c k)) s.days l

    whole : length x ≡ s.days
    whole = length-written (λ k. decoded lowest_point (c k)) s.days l ∙ w.long

    same : (i : ℕ) → i < s.days → Less (on x i) (c i) 1000
    same i h = rw (written_below (λ k. decoded lowest_point (c k)) (pos 0) s.days l i h (omega (arith, w.long))) (decoded_less lowest_point (c i) 1000 point_less)

    present : Schedule (present_profile s) x
    present = of_levels (present_coding s w.reached.supported.bounds.most) x whole c same l'

    schedule_for : (f : List ℤ → ℤ) (v : ℤ) → f x ≡ v → ScheduleFor p hs s f v x
    schedule_for f v a = record {
      present = present;
      cuts = present-kept p d hs s w.reached x present;
      valued = a;
      passes = (inspection.exactly s x).1 (w.unspent, present);
    }

  day-schedule : (i : ℕ) (v : ℤ) → i < s.days → floor_on s i ≤ℤ v → v ≤ℤ ceiling_on s i
      → ScheduleFor p hs s (λ x. on x i) v (written (λ k. decoded lowest_point (day_levels s i v k)) s.days l)
  unfolding day_levels
  day-schedule i v h low high =
      let b = between lowest_point v 1000 (at s.present.floors i) (at s.present.ceilings i) point_less low high in
      let t = with_day w.reached.supported i h (code lowest_point v) b.1 b.2 in
      let x = written (λ k. decoded lowest_point (day_levels s i v k)) s.days l in
      schedule_for (day_levels s i v) t.0 (λ x. on x i) v (less_same (on x i) v (code lowest_point v) 1000 (rw t.1 at (same (day_levels s i v) t.0 i h)) b.0)

  total-schedule : (v : ℤ) → total_floor s ≤ℤ v → v ≤ℤ total_ceiling s → ScheduleFor p hs s (total p.first) v (written (λ k. decoded lowest_point (total_levels s v k)) s.days l)
  unfolding total_levels
  total-schedule v low high =
      let b = between lowest_total v 512000 s.present.lowest s.present.highest total_less low high in
      let t = with_total w.reached.supported (code lowest_total v) b.1 b.2 in
      let x = written (λ k. decoded lowest_point (total_levels s v k)) s.days l in
      let sum = held_less x s.days s.first (total_levels s v) (whole (total_levels s v) t.0) w.reached.supported.bounds.most (same (total_levels s v) t.0) in
      schedule_for (total_levels s v) t.0 (total p.first) v (ap (λ (k : ℕ). total k x) (sym w.reached.first) ∙ less_same (total s.first x) v (code lowest_total v) 512000 (rw t.1 at sum) b.0)

-- ---- all of it

module _ (p : Profile) (z : (opened p).refusal ≡ 0) (hs : List CutCall) (s : Session) (e : s ≡ after (opened p).session hs) where
  d : Entered p
  d = entered p (unrefused p z).early

  writes_day : (i : ℕ) (v : ℤ) (l : List ℤ) → Writes p hs s (λ x. on x i) v (day_write_refusal s i v (length l)) l (day_written s i v l)
  unfolding day_written
  writes_day i v l = record {
    left = list_left _ _ _ l;
    schedule = λ o.
        let t = (day-ranged s i v (length l)).taken.0 o in
        rw (list-filled _ _ _ l o) (day-schedule p d hs s l (record { reached = after_reached p z d hs s e t.0.2; unspent = t.0.2; long = t.0.0 }) i v t.0.1 t.1 t.2);
  }

  writes_sum : (v : ℤ) (l : List ℤ) → Writes p hs s (total p.first) v (total_write_refusal s v (length l)) l (total_written s v l)
  unfolding total_written
  writes_sum v l = record {
    left = list_left _ _ _ l;
    schedule = λ o.
        let t = (sum-ranged s v (length l)).taken.0 o in
        rw (list-filled _ _ _ l o) (total-schedule p d hs s l (record { reached = after_reached p z d hs s e t.0.1; unspent = t.0.1; long = t.0.0 }) v t.1 t.2);
  }

pub writing : Writing
writing = record { day = writes_day; sum = writes_sum; day-ranged = day-ranged; sum-ranged = sum-ranged }
