-- Schedules written and inspected over C.
use mathlib.Core.Path.{◌≡◌, refl, sym, ap, ◌∙◌, subst}
use mathlib.Core.Bool.{Bool, true, false, cond, ◌&&◌, true≢false}
use mathlib.Core.Logic.{◌↔◌}
use mathlib.Core.List.{List}
use Prim.Native.Nat.{ℕ, ◌*◌, ◌≤◌, ◌<◌}
use native.Mathlib.Omega.{arith}
use lib.IntN.{ℤ, pos}
use lib.ListN.{length}
use lib.Signed.{◌≤ℤ◌}
use borrow.Author.Tests.{eqb-true, eqb-false, eq-eqb}
use Rattle.limits.specs.Limits.{lowest_point}
use Rattle.theory_lists.specs.Sum.{at}
use Rattle.theory_lists.specs.Lent.{list-filled}
use Rattle.theory_lists.specs.ListOf.{list_of, length-list_of, get_list_of, list_of-all}
use Rattle.theory_lists.specs.Written.{written, length-written, written_below}
use Rattle.base_codes.specs.Code.{decoded, on}
use Rattle.base_codes.proofs.Laws.{point_less, decoded_less}
use Rattle.base_codes.proofs.Offset.{le_less}
use Rattle.session.specs.Profile.{Profile, total}
use Rattle.session.specs.Showing.{floor_on, ceiling_on, total_floor, total_ceiling}
use Rattle.session.specs.declared.Session.{Session}
use Rattle.schedule_writing.specs.Writing.{day_levels, total_levels, day_write_refusal, total_write_refusal, day_written, total_written}
use Rattle.schedule_inspection.specs.Inspecting.{Finding, refused, kept, inspected}
use Rattle.promises.specs.Cuts.{Kept}
use Rattle.promises.specs.Schedules.{ScheduleFor, Ranged}
use Rattle.promises.proofs.Inspected.{inspection}
use Rattle.promises.proofs.Reached.{present_schedules}
use Rattle.promises.proofs.Written.{writing}
use Rattle.c_lists.specs.Lists.{is_long, points_in, lent_points}
use Rattle.c_lists.proofs.Laws.{points_left}
use Rattle.c_layout.specs.Layout.{decoding}
use Rattle.c_sessions.specs.Sessions.{is_session}
use Rattle.c_schedules.specs.Schedules.{refusal_for, write_refusal, inspected_over}
use Rattle.c_schedules.specs.declared.Subject.{Subject}
use Rattle.c_schedules.specs.declared.Subject.TheVariants.{Day, Total}
use Rattle.promises.specs.InBytes.{ByteCutCall, calls_by_value, CameFrom}
use Rattle.promises.specs.SchedulesInBytes.{value_in, list_written, Written, WritingInBytes, InspectionInBytes}
use Rattle.promises.proofs.Bytes.{Came, came}
use Rattle.promises.proofs.Demands.{days}
use Rattle.promises.proofs.Points.{point_fits, lent_points_lem}

-- a list of n places that is filled
filled-whole : (f : ℕ → ℤ) (n : ℕ) → written f n (list_of (λ _. pos 0) n) ≡ list_of f n
filled-whole f n =
    let l : List ℤ = list_of (λ _. pos 0) n in
    let long : length l ≡ n = length-list_of (λ _. pos 0) n in
    sym (list_of-all f (pos 0) n (written f n l) (length-written f n l ∙ long) (λ k h. sym (written_below f (pos 0) n l k h (omega (arith, long)))))

-- ---- writing

-- what passes the checks on lengths
pairs : (a c : Bool) (r : ℕ) → cond (a && c) r 2 ≡ 0 → r ≡ 0
pairs true true r e = e
pairs true false r e = absurd (omega arith)
pairs false c r e = absurd (omega arith)

module _ (p : Profile) (hs : List ByteCutCall) (b : List ℕ) (c : CameFrom p hs b) where
  w : Came p hs b
  w = came p hs b c

  abbrev s : Session
  s = decoding b

  abbrev n : ℕ
  n = s.days

  module _ (subject : Subject) (v : ℤ) (level : ℕ → ℕ) (l : List ℕ) where
    abbrev point : ℕ → ℤ
    point k = decoded lowest_point (level k)

    module _ (x : ScheduleFor p (calls_by_value hs) s (value_in p subject) v (list_of point n)) where
      low : (k : ℕ) → k < n → level k ≤ 5000
      low k h =
          let within : decoded lowest_point (level k) ≤ℤ ceiling_on s k = rw (get_list_of point (pos 0) n k h, get_list_of (ceiling_on s) (pos 0) n k h) at (x.present.ceiling k h) in
          omega (
            arith,
            le_less (point k) (ceiling_on s k) (level k) (at s.present.ceilings k) 1000 (decoded_less lowest_point (level k) 1000 point_less)
                (decoded_less lowest_point (at s.present.ceilings k) 1000 point_less) within,
            w.storable.bounds.present.ceiling k h,
          )

      stored : (r : ℕ) → r ≡ 0 → ScheduleFor p (calls_by_value hs) s (value_in p subject) v (points_in (lent_points r point n l) n)
      stored r z = rw (lent_points_lem r point n l z (λ k h. point_fits (level k) (low k h))) x

  by_day : (i : ℕ) (v : ℤ) → day_write_refusal s i v n ≡ 0 → ScheduleFor p (calls_by_value hs) s (λ x. on x i) v (list_of (λ k. decoded lowest_point (day_levels s i v k)) n)
  unfolding day_written
  by_day i v r =
      let l : List ℤ = list_of (λ _. pos 0) n in
      let o : day_write_refusal s i v (length l) ≡ 0 = rw (length-list_of (λ (_ : ℕ). pos 0) n) r in
      rw (list-filled _ _ _ l o, filled-whole (λ k. decoded lowest_point (day_levels s i v k)) n) at ((writing.day p w.opens (calls_by_value hs) s w.held i v l).schedule o)

  by_total : (v : ℤ) → total_write_refusal s v n ≡ 0 → ScheduleFor p (calls_by_value hs) s (total p.first) v (list_of (λ k. decoded lowest_point (total_levels s v k)) n)
  unfolding total_written
  by_total v r =
      let l : List ℤ = list_of (λ _. pos 0) n in
      let o : total_write_refusal s v (length l) ≡ 0 = rw (length-list_of (λ (_ : ℕ). pos 0) n) r in
      rw (list-filled _ _ _ l o, filled-whole (λ k. decoded lowest_point (total_levels s v k)) n) at ((writing.sum p w.opens (calls_by_value hs) s w.held v l).schedule o)

  checked : (subject : Subject) (v : ℤ) (l : List ℕ) → write_refusal b subject v l ≡ 0 → refusal_for s subject v ≡ 0
  unfolding write_refusal
  checked subject v l = pairs (is_session b) (is_long l n) (refusal_for s subject v)

  schedule : (subject : Subject) (v : ℤ) (l : List ℕ) → write_refusal b subject v l ≡ 0
      → ScheduleFor p (calls_by_value hs) s (value_in p subject) v (points_in (list_written b subject v l) n)
  schedule (Day i) v l z = stored (Day i) v (day_levels s i v) l (by_day i v (checked (Day i) v l z)) _ z
  schedule Total v l z = stored Total v (total_levels s v) l (by_total v (checked Total v l z)) _ z

  writes : (subject : Subject) (v : ℤ) (l : List ℕ) → Written p hs b subject v l
  writes subject v l = record { left = points_left _ _ _ l; schedule = schedule subject v l }

  -- ---- inspecting

  kept-exactly : (l : List ℕ) → (inspected_over b l ≡ kept) ↔ (length l ≡ p.days * 2) × (s.spent ≡ false) × Kept p (calls_by_value hs) (points_in l p.days)
  unfolding inspected_over
  kept-exactly l =
      subst (λ m. (inspected_over b l ≡ kept) ↔ (length l ≡ m * 2) × (s.spent ≡ false) × Kept p (calls_by_value hs) (points_in l m)) (days p hs b c)
      (rw w.sized (go (is_long l n) refl))
    where
      go : (long : Bool) → is_long l n ≡ long
          → (cond long (inspected s (points_in l n)) (refused 2) ≡ kept) ↔ (length l ≡ n * 2) × (s.spent ≡ false) × Kept p (calls_by_value hs) (points_in l n)
      go true e =
          let x = inspection.exactly s (points_in l n) in
          let by_value = present_schedules p w.opens (calls_by_value hs) s w.held in (
            λ h. let t = x.0 h in (eqb-true (length l) (n * 2) e, t.0, (by_value t.0 (points_in l n)).0 t.1),
            λ t. x.1 (t.1, (by_value t.1 (points_in l n)).1 t.2),
          )
      go false e = (λ h. absurd (omega (arith, ap (λ (f : Finding). f.refusal) h)), λ t. absurd (eqb-false (length l) (n * 2) e t.0))

-- a check on the length before all others
lifted : {P Q : Type 0} {low v high : ℤ} (r : ℕ) (long : Bool) → (long ≡ true → Q → P) → (P → Q) → (P → long ≡ true) → Ranged r Q low v high → Ranged (cond long r 2) P low v high
lifted r true to from first x =
    record {
      ten = (λ e. let t = x.ten.0 e in (to refl t.0, t.1), λ t. x.ten.1 (from t.0, t.1));
      taken = (λ e. let t = x.taken.0 e in (to refl t.0, t.1, t.2), λ t. x.taken.1 (from t.0, t.1, t.2));
    }
lifted r false to from first x =
    record {
      ten = (λ e. absurd (omega arith), λ t. absurd (true≢false (sym (first t.0))));
      taken = (λ e. absurd (omega arith), λ t. absurd (true≢false (sym (first t.0))));
    }

module _ (b : List ℕ) (sized : is_session b ≡ true) (l : List ℕ) where
  abbrev count : ℕ
  count = (decoding b).days

  day-ranged : (i : ℕ) (v : ℤ)
      → Ranged (write_refusal b (Day i) v l) ((length l ≡ count * 2) × (i < count) × ((decoding b).spent ≡ false)) (floor_on (decoding b) i) v (ceiling_on (decoding b) i)
  unfolding write_refusal
  day-ranged i v =
      rw sized
      (lifted _ (is_long l count) (λ e q. (eqb-true (length l) (count * 2) e, q.1, q.2)) (λ q. (refl, q.1, q.2)) (λ q. eq-eqb (length l) (count * 2) q.0)
      (writing.day-ranged (decoding b) i v count))

  sum-ranged : (v : ℤ)
      → Ranged (write_refusal b Total v l) ((length l ≡ count * 2) × ((decoding b).spent ≡ false)) (total_floor (decoding b)) v (total_ceiling (decoding b))
  unfolding write_refusal
  sum-ranged v =
      rw sized
      (lifted _ (is_long l count) (λ e q. (eqb-true (length l) (count * 2) e, q.1)) (λ q. (refl, q.1)) (λ q. eq-eqb (length l) (count * 2) q.0)
      (writing.sum-ranged (decoding b) v count))

pub writing_in_bytes : WritingInBytes
writing_in_bytes = record { list = writes; day-ranged = λ b e i v l. day-ranged b e l i v; sum-ranged = λ b e v l. sum-ranged b e l v }

pub inspection_in_bytes : InspectionInBytes
unfolding inspected_over
inspection_in_bytes =
    record {
      wrong_length = λ b l e. rw e refl;
      answer = λ b l h g. rw (h, g) (inspection.answer (decoding b) (points_in l (decoding b).days));
      exactly = kept-exactly;
    }
