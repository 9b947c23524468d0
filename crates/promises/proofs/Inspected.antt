-- Inspecting answers "kept" exactly for the schedules of the session's present ranges, and otherwise the first broken rule.
use mathlib.Core.Path.{◌≡◌, refl, sym, ◌∙◌, ap}
use mathlib.Core.Bool.{Bool, true, false, cond, not, true≢false}
use mathlib.Core.List.{List}
use Prim.Native.Nat.{ℕ, ◌+◌, ◌-◌, ◌<◌}
use native.Mathlib.Omega.{arith}
use lib.IntN.{ℤ, pos, ◌+ℤ◌}
use lib.Dec.{eqb, ltb}
use lib.ListN.{length}
use lib.Signed.{◌≤ℤ◌, lt_z, lt_z_yes, lt_z_no, clash_ℤ}
use denote.Floats.{passes}
use borrow.Author.Tests.{not-true, not-false, eqb-true, eqb-false, ltb-true, ltb-false}
use Rattle.theory_lists.specs.ListOf.{get_list_of}
use Rattle.theory_lists.specs.First.{first_where, first}
use Rattle.base_codes.specs.Code.{on}
use Rattle.base_codes.proofs.Laws.{within-yes, within_no}
use Rattle.session.specs.Profile.{Schedule, total}
use Rattle.session.specs.Showing.{floor_on, ceiling_on, rise_on, total_floor, total_ceiling}
use Rattle.session.specs.declared.Session.{Session}
use Rattle.schedule_inspection.specs.Inspecting.{broken_day, broken_rise, broken_total, Finding, refused, kept, broken, judged, inspected}
use Rattle.promises.specs.Schedules.{present_profile, DayKept, RiseKept, TotalKept, Inspects, wrong_length, spent, day, rise, sum, all-kept, Inspection}

-- what a test of a rise says
rise-kept : (a b : ℤ) → lt_z b a ≡ false → a ≤ℤ b
rise-kept a b e = lt_z_no (passes (not (lt_z b a)) (ap not e))

rise-broken : (a b : ℤ) → lt_z b a ≡ true → a ≤ℤ b → ⊥
rise-broken a b e = clash_ℤ (lt_z_yes (passes (lt_z b a) e))

module _ (s : Session) (x : List ℤ) where
  abbrev n : ℕ
  n = s.days

  -- a list that keeps every rule is a schedule
  scheduled : length x ≡ s.days → ((j : ℕ) → j < s.days → DayKept s x j) → ((j : ℕ) → j + 1 < s.days → RiseKept s x j) → TotalKept s x → Schedule (present_profile s) x
  scheduled e days rises sums = record {
    whole = e;
    floor = λ i h. rw (get_list_of (floor_on s) (pos 0) n i h) (days i h).0;
    ceiling = λ i h. rw (get_list_of (ceiling_on s) (pos 0) n i h) (days i h).1;
    rise = λ i h. rw (get_list_of (rise_on s) (pos 0) (n - 1) i (omega arith)) (rises i h);
    least = sums.0;
    most = sums.1;
  }

  day_of_lem : Schedule (present_profile s) x → (j : ℕ) → j < s.days → DayKept s x j
  day_of_lem w j h = (rw (get_list_of (floor_on s) (pos 0) n j h) at (w.floor j h), rw (get_list_of (ceiling_on s) (pos 0) n j h) at (w.ceiling j h))

  rise_of : Schedule (present_profile s) x → (j : ℕ) → j + 1 < s.days → RiseKept s x j
  rise_of w j h = rw (get_list_of (rise_on s) (pos 0) (n - 1) j (omega arith)) at (w.rise j h)

  module _ (e : length x ≡ s.days) (u : s.spent ≡ false) where
    abbrev d : ℕ
    d = first_where (broken_day s x) n

    abbrev r : ℕ
    r = first_where (broken_rise s x) (n - 1)

    day-before : (j : ℕ) → j < d → DayKept s x j
    day-before j h = (within-yes (floor_on s j) (ceiling_on s j) (on x j)).0 (not-false _ ((first (broken_day s x) n).before j h))

    rise-before : (j : ℕ) → j < r → RiseKept s x j
    rise-before j h = rise-kept (on x j +ℤ rise_on s j) (on x (j + 1)) ((first (broken_rise s x) (n - 1)).before j h)

    judge : Inspects s x (judged s x)
    unfolding judged
    judge = go (ltb d n) (ltb r (n - 1)) (broken_total s x) refl refl refl
      where
        go : (a b c : Bool) → ltb d n ≡ a → ltb r (n - 1) ≡ b → broken_total s x ≡ c
            → Inspects s x (cond a (broken 1 d) (cond b (broken 2 r) (cond c (broken 3 0) kept)))
        go true b c p q t =
            let h = ltb-true d n p in
            day d refl e u h ((within_no (floor_on s d) (ceiling_on s d) (on x d)).0 (not-true _ ((first (broken_day s x) n).here h))) day-before
        go false true c p q t =
            let h = ltb-true r (n - 1) q in
            rise r refl e u (omega arith) (rise-broken (on x r +ℤ rise_on s r) (on x (r + 1)) ((first (broken_rise s x) (n - 1)).here h))
            (λ j l. day-before j (omega (arith, ltb-false d n p))) rise-before
        go false false true p q t =
            sum refl e u ((within_no (total_floor s) (total_ceiling s) (total s.first x)).0 (not-true _ t))
            (λ j l. day-before j (omega (arith, ltb-false d n p))) (λ j l. rise-before j (omega (arith, ltb-false r (n - 1) q)))
        go false false false p q t =
            all-kept refl u (scheduled e (λ j l. day-before j (omega (arith, ltb-false d n p))) (λ j l. rise-before j (omega (arith, ltb-false r (n - 1) q)))
            ((within-yes (total_floor s) (total_ceiling s) (total s.first x)).0 (not-false _ t)))

  answers : Inspects s x (inspected s x)
  unfolding inspected
  answers = go (eqb (length x) n) s.spent refl refl
    where
      go : (a b : Bool) → eqb (length x) n ≡ a → s.spent ≡ b → Inspects s x (cond (not a) (refused 2) (cond b (refused 9) (judged s x)))
      go true true p q = spent refl (eqb-true (length x) n p) q
      go true false p q = judge (eqb-true (length x) n p) q
      go false b p q = wrong_length refl (eqb-false (length x) n p)

  said : {f : Finding} → Inspects s x f → f ≡ kept → (s.spent ≡ false) × Schedule (present_profile s) x
  said (wrong_length p l) e = let z : ◌≡◌ {A = ℕ} 2 0 = ap (λ (f : Finding). f.refusal) (sym p ∙ e) in absurd (omega arith)
  said (spent p l u) e = let z : ◌≡◌ {A = ℕ} 9 0 = ap (λ (f : Finding). f.refusal) (sym p ∙ e) in absurd (omega arith)
  said (day i p l u h b k) e = let z : ◌≡◌ {A = ℕ} 1 0 = ap (λ (f : Finding). f.rule) (sym p ∙ e) in absurd (omega arith)
  said (rise i p l u h b k m) e = let z : ◌≡◌ {A = ℕ} 2 0 = ap (λ (f : Finding). f.rule) (sym p ∙ e) in absurd (omega arith)
  said (sum p l u b k m) e = let z : ◌≡◌ {A = ℕ} 3 0 = ap (λ (f : Finding). f.rule) (sym p ∙ e) in absurd (omega arith)
  said (all-kept p u w) e = (u, w)

  only : {f : Finding} → Inspects s x f → s.spent ≡ false → Schedule (present_profile s) x → f ≡ kept
  only (wrong_length p l) u w = absurd (l w.whole)
  only (spent p l t) u w = absurd (true≢false (sym t ∙ u))
  only (day i p l t h b k) u w = absurd (b (day_of_lem w i h))
  only (rise i p l t h b k m) u w = absurd (b (rise_of w i h))
  only (sum p l t b k m) u w = absurd (b (w.least, w.most))
  only (all-kept p t v) u w = p

pub inspection : Inspection
inspection = record {
  answer = answers;
  exactly = λ s x. (said s x (answers s x), λ w. only s x (answers s x) w.0 w.1);
}
