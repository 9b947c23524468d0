-- A cut by what its tests found.
use Rattle.std.specs.Prelude.{None, Option, Some, Result, Ok, Err, ok_or}
use Rattle.refusals.specs.declared.Refusal.{Refusal}
use Rattle.refusals.specs.Number.{refusal_number, refusal_of}
use Rattle.std.specs.Result.{result_unwrap_or}
use mathlib.Core.Path.{◌≡◌, refl, ap, sym, ◌∙◌}
use mathlib.Core.Bool.{Bool, true, false, cond}
use mathlib.Core.List.{List}
use Prim.Native.Nat.{ℕ, ◌≤◌, ◌<◌}
use native.Mathlib.Omega.{arith}
use lib.IntN.{ℤ}
use lib.Dec.{eqb, ltb}
use lib.ListN.{length}
use mir.Syntax.{w32}
use mir.Val.{SFits}
use borrow.Author.Tests.{eq-eqb, ne_eqb, lt-ltb, le-ltb}
use Rattle.limits.specs.Limits.{lowest_point, highest_point, lowest_total, highest_total}
use Rattle.base_codes.specs.Code.{within, code, coded}
use Rattle.base_codes.proofs.Laws.{point_most}
use Rattle.base_codes.proofs.Casts.{seen, coded_seen}
use Rattle.theory_method.specs.Filter.{Tight}
use Rattle.session.specs.Opening.{ranges_of}
use Rattle.session.specs.Showing.{Fits}
use Rattle.session.specs.declared.Ranges.{Ranges}
use Rattle.session.specs.declared.Session.{Session}
use Rattle.session_cuts.specs.declared.Cut.{Cut}
use Rattle.session_cuts.specs.declared.Cut.TheVariants.{DayFloor, DayCeiling, TotalFloor, TotalCeiling}
use Rattle.theory_lists.specs.Front.{in_front}
use Rattle.session_cutting.specs.Cutting.{day_cut_refusal, total_cut_refusal, malformed, early_cutting, clipped, retightened, changed_days, spend, with_present}
use Rattle.session_cutting.specs.Cutting.{AfterCut, answer_as, refusing, tightened_to, after_cut, after_numbered, list_after}
use Rattle.session_cutting.specs.Stages.{Checked, checked_as, checked_value, checked_cut, DayClips, Clips}
use Rattle.session_cutting.proofs.Laws.{day-formed, total-formed, earlier_none, refused-same, accepted, refused-list, accepted-list, clipped_in_bounds}

-- ---- check

value_refusal : (placed in_bounds : Bool) (otherwise outside v : ℕ)
    → (checked_value placed otherwise (cond in_bounds (Some v) None) outside).refusal ≡ cond placed (cond in_bounds 0 outside) otherwise
unfolding checked_value
value_refusal true true otherwise outside v = refl
value_refusal true false otherwise outside v = refl
value_refusal false in_bounds otherwise outside v = refl

-- of a day that the cut can have
pub value_taken : (otherwise : ℕ) (v : Option ℕ) (outside : Refusal) → checked_as (ok_or v outside) ≡ checked_value true otherwise v (refusal_number outside)
unfolding checked_value
value_taken otherwise (Some v) outside = refl
value_taken otherwise None outside = refl

-- of a value that is read back from its bits
pub value_checked : (low high : ℤ) (placed : Bool) (otherwise outside : ℕ) {value : ℤ} {v : Option ℕ} {r : Checked} → SFits w32 value → v ≡ coded low high (seen value)
    → r ≡ checked_value placed otherwise v outside → r ≡ checked_value placed otherwise (coded low high value) outside
value_checked low high placed otherwise outside f e h = h ∙ ap (λ v. checked_value placed otherwise v outside) (coded_seen low high f e)

day-clips : (n day : ℕ) (value : ℤ) → n ≤ 512 → day_cut_refusal n day value ≡ 0 → DayClips day value (checked_value (ltb day n) 7 (coded lowest_point highest_point value) 3).value
unfolding checked_value
day-clips n day value few e = let f = day-formed n day value e in rw (lt-ltb day n f.0, f.1) (omega (arith, f.0), refl, point_most value f.1)

total-clips : (day : ℕ) (value : ℤ) → total_cut_refusal day value ≡ 0 → (checked_value (eqb day 0) 12 (coded lowest_total highest_total value) 5).value ≡ code lowest_total value
unfolding checked_value
total-clips day value e = let f = total-formed day value e in rw (eq-eqb day 0 f.0, f.1) refl

cut_refusal : (n : ℕ) (c : Cut) → (checked_cut n c).refusal ≡ malformed n c
unfolding checked_cut
cut_refusal n (DayFloor day value) = value_refusal (ltb day n) (within lowest_point highest_point value) 7 3 (code lowest_point value)
cut_refusal n (DayCeiling day value) = value_refusal (ltb day n) (within lowest_point highest_point value) 7 3 (code lowest_point value)
cut_refusal n (TotalFloor day value) = value_refusal (eqb day 0) (within lowest_total highest_total value) 12 5 (code lowest_total value)
cut_refusal n (TotalCeiling day value) = value_refusal (eqb day 0) (within lowest_total highest_total value) 12 5 (code lowest_total value)

clips_of : (n : ℕ) (c : Cut) → n ≤ 512 → malformed n c ≡ 0 → Clips c (checked_cut n c).value
unfolding checked_cut
clips_of n (DayFloor day value) few e = day-clips n day value few e
clips_of n (DayCeiling day value) few e = day-clips n day value few e
clips_of n (TotalFloor day value) few e = total-clips day value e
clips_of n (TotalCeiling day value) few e = total-clips day value e

module _ (n : ℕ) (c : Cut) {r : Checked} (e : r ≡ checked_cut n c) where
  pub checked-refusal : r.refusal ≡ malformed n c
  checked-refusal = rw e (cut_refusal n c)

  pub checked-clips : n ≤ 512 → r.refusal ≡ 0 → Clips c r.value
  checked-clips few z = rw e (clips_of n c few (sym checked-refusal ∙ z))

-- ---- an answer

-- its two numbers, as a caller in C is told them
pub number-told : (a : Result ℕ Refusal) → refusal_of a ≡ (answer_as a).refusal
number-told (Ok changed) = refl
number-told (Err refusal) = refl

pub changed-told : (a : Result ℕ Refusal) → result_unwrap_or a 0 ≡ (answer_as a).changed
changed-told (Ok changed) = refl
changed-told (Err refusal) = refl

-- ---- cut_ranges

pub clips-bounds : {rs : List ℕ} {n first : ℕ} (r : Ranges) (c : Cut) {k : Ranges} → k ≡ clipped r c → Fits rs n first r → malformed n c ≡ 0 → Fits rs n first k
clips-bounds {rs} {n} {first} r c clip bounds e = rw clip (clipped_in_bounds rs n first r c bounds e)

-- ---- tighten_again

module _ (s : Session) (c : Cut) {t : Tight} (e : t ≡ retightened s (clipped s.present c)) where
  pub again-found : t.found ≡ true → {count : ℕ} → count ≡ length (changed_days s.days s.present (ranges_of t))
      → record { answer = record { refusal = 0; changed = count }; session = with_present s (ranges_of t) } ≡ tightened_to s (retightened s (clipped s.present c))
  again-found f n = rw (← e, f, n)

  pub again-none : t.found ≡ false → refusing 8 (spend s) ≡ tightened_to s (retightened s (clipped s.present c))
  again-none f = rw (← e, f)

-- ---- cut

module _ (s : Session) (c : Cut) (room : ℕ) where
  refused_by : (number : ℕ) → early_cutting s c room ≡ number → (number ≡ 0 → ⊥) → refusing number s ≡ after_cut s c room
  refused_by number e apart = rw (← e) (sym (refused-same s c room (ne_eqb (early_cutting s c room) 0 (λ z. apart (sym e ∙ z)))))

  pub cut-malformed : {m : ℕ} → m ≡ malformed s.days c → (m ≡ 0 → ⊥) → refusing m s ≡ after_cut s c room
  unfolding early_cutting
  cut-malformed {m} e apart = refused_by m (rw (← e, ne_eqb m 0 apart)) apart

  module _ (well : malformed s.days c ≡ 0) where
    pub cut_short : room < s.days → refusing 2 s ≡ after_cut s c room
    unfolding early_cutting
    cut_short h = refused_by 2 (rw (well, lt-ltb room s.days h)) (λ z. absurd (omega arith))

    module _ (h : s.days ≤ room) where
      pub cut-spent : s.spent ≡ true → refusing 9 s ≡ after_cut s c room
      unfolding early_cutting
      cut-spent p = refused_by 9 (rw (well, le-ltb room s.days h, p)) (λ z. absurd (omega arith))

      pub cut-taken : s.spent ≡ false → tightened_to s (retightened s (clipped s.present c)) ≡ after_cut s c room
      cut-taken p = sym (accepted s c room (earlier_none s c room well (le-ltb room s.days h) p))

-- ---- cut_told

module _ (s : Session) (room : ℕ) {t u : Option Cut} (e : t ≡ u) where
  pub numbered_unknown : t ≡ None → refusing 12 s ≡ after_numbered s u room
  unfolding after_numbered
  numbered_unknown h = rw (← e, h)

  pub numbered-known : {c : Cut} → t ≡ Some c → after_cut s c room ≡ after_numbered s u room
  unfolding after_numbered
  numbered-known h = rw (← e, h)

-- ---- the lent list

pub list_left : (s s' : Session) (l : List ℕ) {number : ℕ} {r : AfterCut} → r ≡ refusing number s' → (number ≡ 0 → ⊥) → l ≡ list_after s r l
list_left s s' l {number} e apart = rw e (sym (refused-list s (refusing number s') l apart))

pub list_written_lem : (s s' : Session) (l : List ℕ) {count : ℕ} {r : AfterCut} → r ≡ record { answer = record { refusal = 0; changed = count }; session = s' }
    → in_front (changed_days s.days s.present s'.present) l ≡ list_after s r l
list_written_lem s s' l e = rw e (sym (accepted-list s _ l refl))
