-- What holds of a cut: what its checks let pass, what a refusal leaves, and that a session's numbers stay in bounds.
use Rattle.std.specs.Prelude.{None, Option, Some}
use mathlib.Core.Path.{◌≡◌, refl, sym, ◌∙◌}
use mathlib.Core.Logic.{inl}
use mathlib.Core.Bool.{Bool, true, false, cond, true≢false}
use mathlib.Core.List.{List}
use Prim.Native.Nat.{ℕ, suc, ◌≤◌, ◌<◌, min, max}
use native.Mathlib.Omega.{arith}
use native.Mathlib.Decide.{ℕ_discrete}
use lib.IntN.{ℤ}
use lib.Dec.{eqb, ltb}
use lib.ListN.{length, length-set}
use borrow.Author.Tests.{eqb-true, eqb-false, eq-eqb, ne_eqb, ltb-true, ltb-false}
use Rattle.limits.specs.Limits.{lowest_point, highest_point, lowest_total, highest_total}
use Rattle.theory_lists.specs.Sum.{at}
use Rattle.theory_lists.specs.Written.{by_cell}
use Rattle.base_codes.specs.Code.{within, code}
use Rattle.base_codes.proofs.Laws.{point_most, total-most}
use Rattle.theory_method.specs.Filter.{Tight}
use Rattle.theory_method.proofs.Levels.{refit}
use Rattle.theory_method.proofs.Exact.{Exact, exact, floor-kept, ceiling-kept, exact_in_bounds}
use Rattle.session.specs.Opening.{ranges_of}
use Rattle.session.specs.Showing.{box_of, Fits, SessionInBounds}
use Rattle.session.specs.declared.Ranges.{Ranges}
use Rattle.session.specs.declared.Session.{Session}
use Rattle.session_cuts.specs.declared.Cut.{Cut}
use Rattle.session_cuts.specs.declared.Cut.TheVariants.{DayFloor, DayCeiling, TotalFloor, TotalCeiling}
use Rattle.session_cuts.specs.Sheet.{day_of}
use Rattle.theory_lists.specs.Front.{in_front}
use Rattle.session_order.specs.Order.{days_where}
use Rattle.session_order.proofs.Days.{days_few}
use Rattle.session_order.proofs.Settled.{settled-length}
use Rattle.session_changed.specs.Changes.{differs, lost, Narrowed, NarrowedOrSame}
use Rattle.session_changed.proofs.Laws.{narrowed_none, narrowed_same}
use Rattle.session_cutting.specs.Cutting.{day_cut_refusal, total_cut_refusal, malformed, early_cutting, clipped, retightened, tightened_to, refusing, changed_days, after_cut, after_numbered, list_after, AfterCut}

-- ---- what the checks let pass

placed_within : (placed in_bounds : Bool) (m k : ℕ) → cond placed (cond in_bounds 0 (suc m)) (suc k) ≡ 0 → (placed ≡ true) × (in_bounds ≡ true)
placed_within true true m k e = (refl, refl)
placed_within true false m k e = absurd (omega arith)
placed_within false in_bounds m k e = absurd (omega arith)

pub day-formed : (n day : ℕ) (value : ℤ) → day_cut_refusal n day value ≡ 0 → (day < n) × (within lowest_point highest_point value ≡ true)
day-formed n day value e = let f = placed_within (ltb day n) (within lowest_point highest_point value) 2 6 e in (ltb-true day n f.0, f.1)

pub total-formed : (day : ℕ) (value : ℤ) → total_cut_refusal day value ≡ 0 → (day ≡ 0) × (within lowest_total highest_total value ≡ true)
total-formed day value e = let f = placed_within (eqb day 0) (within lowest_total highest_total value) 4 11 e in (eqb-true day 0 f.0, f.1)

-- its day is one of the profile's, or 0
pub formed-day : (n : ℕ) (c : Cut) → malformed n c ≡ 0 → 0 < n → day_of c < n
formed-day n (DayFloor day value) e some = (day-formed n day value e).0
formed-day n (DayCeiling day value) e some = (day-formed n day value e).0
formed-day n (TotalFloor day value) e some = omega (arith, (total-formed day value e).0)
formed-day n (TotalCeiling day value) e some = omega (arith, (total-formed day value e).0)

-- no check before 8 refuses where the cut is well-formed, the list long enough and the session not spent
pub earlier_none : (s : Session) (c : Cut) (room : ℕ) → malformed s.days c ≡ 0 → ltb room s.days ≡ false → s.spent ≡ false → eqb (early_cutting s c room) 0 ≡ true
unfolding early_cutting
earlier_none s c room e l a = rw (e, l, a) refl

-- and what is known where none refuses
pub record Passed (s : Session) (c : Cut) (room : ℕ) : Type 0 where
  pub formed : malformed s.days c ≡ 0
  pub roomy : ltb room s.days ≡ false
  pub unspent : s.spent ≡ false

pub passed : (s : Session) (c : Cut) (room : ℕ) → eqb (early_cutting s c room) 0 ≡ true → Passed s c room
unfolding early_cutting
passed s c room = go (eqb (malformed s.days c) 0) (ltb room s.days) s.spent refl refl refl
  where
    go : (a b d : Bool) → eqb (malformed s.days c) 0 ≡ a → ltb room s.days ≡ b → s.spent ≡ d
        → eqb (cond a (cond b 2 (cond d 9 0)) (malformed s.days c)) 0 ≡ true → Passed s c room
    go true false false p q r e = record { formed = eqb-true (malformed s.days c) 0 p; roomy = q; unspent = r }
    go true true d p q r e = let z : ◌≡◌ {A = ℕ} 2 0 = eqb-true 2 0 e in absurd (omega arith)
    go true false true p q r e = let z : ◌≡◌ {A = ℕ} 9 0 = eqb-true 9 0 e in absurd (omega arith)
    go false b d p q r e = absurd (eqb-false (malformed s.days c) 0 p (eqb-true (malformed s.days c) 0 e))

-- a refusal before 8 leaves the session
pub refused-same : (s : Session) (c : Cut) (room : ℕ) → eqb (early_cutting s c room) 0 ≡ false → after_cut s c room ≡ refusing (early_cutting s c room) s
unfolding after_cut
refused-same s c room e = rw e refl

pub accepted : (s : Session) (c : Cut) (room : ℕ) → eqb (early_cutting s c room) 0 ≡ true → after_cut s c room ≡ tightened_to s (retightened s (clipped s.present c))
unfolding after_cut
accepted s c room e = rw e refl

-- the lent list beside a refusal, and of an accepted cut
pub refused-list : (s : Session) (r : AfterCut) (l : List ℕ) → (r.answer.refusal ≡ 0 → ⊥) → list_after s r l ≡ l
unfolding list_after
refused-list s r l h = rw (ne_eqb r.answer.refusal 0 h) refl

pub accepted-list : (s : Session) (r : AfterCut) (l : List ℕ) → r.answer.refusal ≡ 0 → list_after s r l ≡ in_front (changed_days s.days s.present r.session.present) l
unfolding list_after
accepted-list s r l z = rw (eq-eqb r.answer.refusal 0 z) refl

-- no more days change than there are
pub changed_few : (n : ℕ) (before after : Ranges) → length (changed_days n before after) ≤ n
changed_few n before after =
    omega (
      arith,
      settled-length (lost before.floors before.ceilings after.floors after.ceilings) (days_where (differs before.floors before.ceilings after.floors after.ceilings) n),
      days_few (differs before.floors before.ceilings after.floors after.ceilings) n,
    )

-- an accepted cut had a list that is long enough, and its count is that of the changed days
pub record Accepted (s : Session) (room : ℕ) (r : AfterCut) : Type 0 where
  pub roomy : s.days ≤ room
  pub counted : r.answer.changed ≡ length (changed_days s.days s.present r.session.present)
  pub few : r.answer.changed ≤ s.days

cut-accepted : (s : Session) (c : Cut) (room : ℕ) → (after_cut s c room).answer.refusal ≡ 0 → Accepted s room (after_cut s c room)
cut-accepted s c room = go (eqb (early_cutting s c room) 0) (retightened s (clipped s.present c)).found refl refl
  where
    go : (early found : Bool) → eqb (early_cutting s c room) 0 ≡ early → (retightened s (clipped s.present c)).found ≡ found
        → (after_cut s c room).answer.refusal ≡ 0 → Accepted s room (after_cut s c room)
    go true true e f z = rw (accepted s c room e, f) (record { roomy = ltb-false room s.days (passed s c room e).roomy; counted = refl; few = changed_few s.days s.present (ranges_of (retightened s (clipped s.present c))) })
    go true false e f z = absurd (omega (arith, rw (accepted s c room e, f) at z))
    go false found e f z = absurd (eqb-false (early_cutting s c room) 0 e (rw (refused-same s c room e) at z))

pub numbered-accepted : (s : Session) (t : Option Cut) (room : ℕ) → (after_numbered s t room).answer.refusal ≡ 0 → Accepted s room (after_numbered s t room)
unfolding after_numbered
numbered-accepted s (Some c) room = cut-accepted s c room
numbered-accepted s None room = λ z. absurd (omega arith)

-- refused or not, it has no more changed days than there are
cut_few : (s : Session) (c : Cut) (room : ℕ) → (after_cut s c room).answer.changed ≤ s.days
cut_few s c room = go (eqb (early_cutting s c room) 0) (retightened s (clipped s.present c)).found refl refl
  where
    go : (early found : Bool) → eqb (early_cutting s c room) 0 ≡ early → (retightened s (clipped s.present c)).found ≡ found → (after_cut s c room).answer.changed ≤ s.days
    go true true e f = rw (accepted s c room e, f) (changed_few s.days s.present (ranges_of (retightened s (clipped s.present c))))
    go true false e f = rw (accepted s c room e, f) (omega arith)
    go false found e f = rw (refused-same s c room e) (omega arith)

pub numbered_few : (s : Session) (t : Option Cut) (room : ℕ) → (after_numbered s t room).answer.changed ≤ s.days
unfolding after_numbered
numbered_few s (Some c) room = cut_few s c room
numbered_few s None room = omega arith

-- ---- in bounds

pub clipped_in_bounds : (rs : List ℕ) (n first : ℕ) (r : Ranges) (c : Cut) → Fits rs n first r → malformed n c ≡ 0 → Fits rs n first (clipped r c)
unfolding clipped
clipped_in_bounds rs n first r (DayFloor day value) b e =
    let f = day-formed n day value e in
    let w : ℕ = max (at r.floors day) (code lowest_point value) in
    refit b (length-set r.floors day w ∙ b.floors) b.ceilings
    (λ k h. by_cell (λ _ a. a ≤ 5000) 0 r.floors day w (omega (arith, b.floors, b.most)) (omega (arith, b.floor day f.0, point_most value f.1)) k (b.floor k h))
    b.ceiling b.lowest b.highest
clipped_in_bounds rs n first r (DayCeiling day value) b e =
    let f = day-formed n day value e in
    let w : ℕ = min (at r.ceilings day) (code lowest_point value) in
    refit b b.floors (length-set r.ceilings day w ∙ b.ceilings) b.floor
    (λ k h. by_cell (λ _ a. a ≤ 5000) 0 r.ceilings day w (omega (arith, b.ceilings, b.most)) (omega (arith, b.ceiling day f.0)) k (b.ceiling k h))
    b.lowest b.highest
clipped_in_bounds rs n first r (TotalFloor day value) b e =
    refit b b.floors b.ceilings b.floor b.ceiling (omega (arith, b.lowest, total-most value (total-formed day value e).1)) b.highest
clipped_in_bounds rs n first r (TotalCeiling day value) b e = refit b b.floors b.ceilings b.floor b.ceiling b.lowest (omega (arith, b.highest))

-- ---- clipping and tightening leave no range that is not within the one before

clipped-floor : (n : ℕ) (r : Ranges) (c : Cut) → malformed n c ≡ 0 → n ≤ length r.floors → (k : ℕ) → at r.floors k ≤ at (clipped r c).floors k
unfolding clipped
clipped-floor n r (DayFloor day value) e room k =
    by_cell (λ j a. at r.floors j ≤ a) 0 r.floors day (max (at r.floors day) (code lowest_point value)) (omega (arith, (day-formed n day value e).0)) (omega arith) k
    (omega arith)
clipped-floor n r (DayCeiling day value) e room k = omega arith
clipped-floor n r (TotalFloor day value) e room k = omega arith
clipped-floor n r (TotalCeiling day value) e room k = omega arith

clipped-ceiling : (n : ℕ) (r : Ranges) (c : Cut) → malformed n c ≡ 0 → n ≤ length r.ceilings → (k : ℕ) → at (clipped r c).ceilings k ≤ at r.ceilings k
unfolding clipped
clipped-ceiling n r (DayCeiling day value) e room k =
    by_cell (λ j a. a ≤ at r.ceilings j) 0 r.ceilings day (min (at r.ceilings day) (code lowest_point value)) (omega (arith, (day-formed n day value e).0)) (omega arith) k
    (omega arith)
clipped-ceiling n r (DayFloor day value) e room k = omega arith
clipped-ceiling n r (TotalFloor day value) e room k = omega arith
clipped-ceiling n r (TotalCeiling day value) e room k = omega arith

pub tightened_narrows : (s : Session) (c : Cut) → SessionInBounds s → malformed s.days c ≡ 0 → {t : Tight} → t ≡ retightened s (clipped s.present c) → t.found ≡ true
    → Narrowed s.present.floors s.present.ceilings t.floors t.ceilings s.days
tightened_narrows s c b e {t} is found =
    let fits = b.present in
    let x : Exact (box_of s.rises s.days s.first (clipped s.present c)) t =
    rw is (exact (clipped_in_bounds s.rises s.days s.first s.present c fits e) (rw is at found)) in
    record {
      floor = λ k h. omega (arith, clipped-floor s.days s.present c e (omega (arith, fits.floors, fits.most)) k, floor-kept x k h);
      some = λ k h. (x.day k h).some;
      ceiling = λ k h. omega (arith, clipped-ceiling s.days s.present c e (omega (arith, fits.ceilings, fits.most)) k, ceiling-kept x k h);
      most = fits.ceiling;
    }

-- so does an accepted cut
abbrev pub Narrows : Session → Session → Type 0
Narrows s u = NarrowedOrSame s.present.floors s.present.ceilings u.present.floors u.present.ceilings s.days

cut_narrows : (s : Session) (c : Cut) (room : ℕ) → SessionInBounds s → (after_cut s c room).answer.refusal ≡ 0 → Narrows s (after_cut s c room).session
cut_narrows s c room b = go (eqb (early_cutting s c room) 0) (retightened s (clipped s.present c)).found refl refl
  where
    go : (early found : Bool) → eqb (early_cutting s c room) 0 ≡ early → (retightened s (clipped s.present c)).found ≡ found
        → (after_cut s c room).answer.refusal ≡ 0 → Narrows s (after_cut s c room).session
    go true true e f z = rw (accepted s c room e, f) (narrowed_same (tightened_narrows s c b (passed s c room e).formed refl f))
    go true false e f z = absurd (omega (arith, rw (accepted s c room e, f) at z))
    go false found e f z = absurd (eqb-false (early_cutting s c room) 0 e (rw (refused-same s c room e) at z))

pub numbered_narrows : (s : Session) (t : Option Cut) (room : ℕ) → SessionInBounds s → (after_numbered s t room).answer.refusal ≡ 0 → Narrows s (after_numbered s t room).session
unfolding after_numbered
numbered_narrows s (Some c) room b = cut_narrows s c room b
numbered_narrows s None room b = λ z. absurd (omega arith)

-- ---- in bounds after a cut

pub cut_in_bounds : (s : Session) (c : Cut) (room : ℕ) → SessionInBounds s → SessionInBounds (after_cut s c room).session
cut_in_bounds s c room b = go (eqb (early_cutting s c room) 0) (retightened s (clipped s.present c)).found refl refl
  where
    go : (early found : Bool) → eqb (early_cutting s c room) 0 ≡ early → (retightened s (clipped s.present c)).found ≡ found → SessionInBounds (after_cut s c room).session
    go true true e f =
        let fits = clipped_in_bounds s.rises s.days s.first s.present c b.present (passed s c room e).formed in
        rw (accepted s c room e, f) (record { opened = b.opened; present = exact_in_bounds (exact fits f) fits })
    go true false e f = rw (accepted s c room e, f) (record { opened = b.opened; present = b.opened })
    go false found e f = rw (refused-same s c room e) b

pub numbered_in_bounds : (s : Session) (t : Option Cut) (room : ℕ) → SessionInBounds s → SessionInBounds (after_numbered s t room).session
unfolding after_numbered
numbered_in_bounds s (Some c) room b = cut_in_bounds s c room b
numbered_in_bounds s None room b = b

-- ---- what a cut keeps of a session

-- a refusal other than 8 leaves it, and so does a cut on a spent one; where a cut spends it, it shows the ranges that it had when opened
pub record Keeps (s : Session) (a : AfterCut) : Type 0 where
  pub days : a.session.days ≡ s.days
  pub first : a.session.first ≡ s.first
  pub rises : a.session.rises ≡ s.rises
  pub opened : a.session.opened ≡ s.opened
  pub left : (a.answer.refusal ≡ 0 → ⊥) → (a.answer.refusal ≡ 8 → ⊥) → a.session ≡ s
  pub stays : (a.answer.refusal ≡ 0 → ⊥) → a.session.spent ≡ false → a.session ≡ s
  pub spent : s.spent ≡ true → a.session ≡ s
  pub spends : s.spent ≡ false → a.session.spent ≡ true → a.session.present ≡ s.opened

keeps-refused : (s : Session) (number : ℕ) → Keeps s (refusing number s)
keeps-refused s number =
    record { days = refl; first = refl; rises = refl; opened = refl; left = λ h k. refl; stays = λ h u. refl; spent = λ u. refl; spends = λ u v. absurd (true≢false (sym v ∙ u)) }

cut_keeps : (s : Session) (c : Cut) (room : ℕ) → Keeps s (after_cut s c room)
cut_keeps s c room = go (eqb (early_cutting s c room) 0) (retightened s (clipped s.present c)).found refl refl
  where
    go : (early found : Bool) → eqb (early_cutting s c room) 0 ≡ early → (retightened s (clipped s.present c)).found ≡ found → Keeps s (after_cut s c room)
    go true true e f =
        let unspent = (passed s c room e).unspent in
        rw (accepted s c room e, f) (record {
          days = refl;
          first = refl;
          rises = refl;
          opened = refl;
          left = λ h k. absurd (h refl);
          stays = λ h u. absurd (h refl);
          spent = λ u. absurd (true≢false (sym u ∙ unspent));
          spends = λ u v. absurd (true≢false (sym v ∙ u));
        })
    go true false e f =
        let unspent = (passed s c room e).unspent in
        rw (accepted s c room e, f) (record {
          days = refl;
          first = refl;
          rises = refl;
          opened = refl;
          left = λ h k. absurd (k refl);
          stays = λ h u. absurd (true≢false u);
          spent = λ u. absurd (true≢false (sym u ∙ unspent));
          spends = λ u v. refl;
        })
    go false found e f = rw (refused-same s c room e) (keeps-refused s (early_cutting s c room))

pub keeps : (s : Session) (t : Option Cut) (room : ℕ) → Keeps s (after_numbered s t room)
unfolding after_numbered
keeps s (Some c) room = cut_keeps s c room
keeps s None room = keeps-refused s 12

-- a cut that does not spend the session leaves no range that is not the one before, or within it
pub numbered_within : (s : Session) (t : Option Cut) (room : ℕ) → SessionInBounds s → (after_numbered s t room).session.spent ≡ false → Narrows s (after_numbered s t room).session
numbered_within s t room b u = go (ℕ_discrete (after_numbered s t room).answer.refusal 0)
  where
    go : Dec ((after_numbered s t room).answer.refusal ≡ 0) → Narrows s (after_numbered s t room).session
    go (yes z) = numbered_narrows s t room b z
    go (no h) = rw ((keeps s t room).stays h u) (narrowed_none s.present.floors s.present.ceilings s.days b.present.ceiling)
