-- Document 01: what a cut makes of a session, and of the list that is lent for changed days.
use Rattle.std.specs.Prelude.{true, cond, List, ℕ, min, max, ℤ, eqb, ltb, length, set, None, Option, Some, Result, Ok, Err}
use Rattle.limits.specs.Limits.{lowest_point, highest_point, lowest_total, highest_total}
use Rattle.theory_lists.specs.Sum.{at}
use Rattle.base_codes.specs.Code.{within, code}
use Rattle.theory_method.specs.Filter.{Tight, tightened}
use Rattle.session.specs.Showing.{box_of}
use Rattle.session.specs.Opening.{ranges_of}
use Rattle.session.specs.declared.Ranges.{Ranges}
use Rattle.session.specs.declared.Session.{Session}
use Rattle.session_cuts.specs.declared.Cut.{Cut}
use Rattle.session_cuts.specs.declared.Cut.TheVariants.{DayFloor, DayCeiling, TotalFloor, TotalCeiling}
use Rattle.theory_lists.specs.Front.{in_front}
use Rattle.session_changed.specs.Changes.{differs, lost}
use Rattle.session_order.specs.Order.{days_where, settled_order}
use Rattle.session_cutting.specs.declared.AfterCut as Code
use Rattle.refusals.specs.declared.Refusal.{Refusal}
use Rattle.refusals.specs.Number.{refusal_number}

-- ---- the refusals

-- 7: a day not in the profile; 3: a point outside its bounds
abbrev pub day_cut_refusal : ℕ → ℕ → ℤ → ℕ
day_cut_refusal n day value = cond (ltb day n) (cond (within lowest_point highest_point value) 0 3) 7

-- 12: a total cut whose day is not 0; 5: a total bound outside its bounds
abbrev pub total_cut_refusal : ℕ → ℤ → ℕ
total_cut_refusal day value = cond (eqb day 0) (cond (within lowest_total highest_total value) 0 5) 12

-- the refusal of a cut of n days that is not well-formed, or 0
abbrev pub malformed : ℕ → Cut → ℕ
malformed n (DayFloor day value) = day_cut_refusal n day value
malformed n (DayCeiling day value) = day_cut_refusal n day value
malformed n (TotalFloor day value) = total_cut_refusal day value
malformed n (TotalCeiling day value) = total_cut_refusal day value

-- the first refusal of a cut before 8 that applies, or 0, where the list for changed days is that long
unfoldable pub early_cutting : Session → Cut → ℕ → ℕ
early_cutting s c room =
    cond (eqb (malformed s.days c) 0) (cond (ltb room s.days) 2 (cond s.spent 9 0))
    (malformed s.days c)

-- ---- the session

-- ranges, clipped by a well-formed cut
unfoldable pub clipped : Ranges → Cut → Ranges
clipped r (DayFloor day value) =
    record { floors = set r.floors day (max (at r.floors day) (code lowest_point value)); ceilings = r.ceilings; lowest = r.lowest; highest = r.highest }
clipped r (DayCeiling day value) =
    record { floors = r.floors; ceilings = set r.ceilings day (min (at r.ceilings day) (code lowest_point value)); lowest = r.lowest; highest = r.highest }
clipped r (TotalFloor day value) = record { floors = r.floors; ceilings = r.ceilings; lowest = max r.lowest (code lowest_total value); highest = r.highest }
clipped r (TotalCeiling day value) = record { floors = r.floors; ceilings = r.ceilings; lowest = r.lowest; highest = min r.highest (code lowest_total value) }

-- everything tightened again
abbrev pub retightened : Session → Ranges → Tight
retightened s r = tightened (box_of s.rises s.days s.first r)

-- the days whose floor or ceiling differs: those whose range lost most first, equal losses by day (request Two)
abbrev pub changed_days : ℕ → Ranges → Ranges → List ℕ
changed_days n before after =
    settled_order (lost before.floors before.ceilings after.floors after.ceilings)
    (days_where (differs before.floors before.ceilings after.floors after.ceilings) n)

-- a spent session shows the ranges that it had when opened, and holds nothing else of its cuts
abbrev pub spend : Session → Session
spend s = record { days = s.days; first = s.first; rises = s.rises; opened = s.opened; present = s.opened; spent = true }

abbrev pub with_present : Session → Ranges → Session
with_present s r = record { days = s.days; first = s.first; rises = s.rises; opened = s.opened; present = r; spent = s.spent }

-- a cut's answer: the refusal's number, 0 for none, and how many days changed
pub record CutAnswer : Type 0 where
  pub refusal : ℕ
  pub changed : ℕ

abbrev pub answer_as : Result ℕ Refusal → CutAnswer
answer_as (Ok changed) = record { refusal = 0; changed = changed }
answer_as (Err refusal) = record { refusal = refusal_number refusal; changed = 0 }

-- with the session after it
pub record AfterCut : Type 0 where
  pub answer : CutAnswer
  pub session : Session

abbrev pub after_as : Code.AfterCut → AfterCut
after_as a = record { answer = answer_as a.answer; session = a.session }

-- beside a refusal's number the count of changed days is 0
abbrev pub refusing : ℕ → Session → AfterCut
refusing number s = record { answer = record { refusal = number; changed = 0 }; session = s }

-- with no earlier refusal: 8 where there is no schedule, which spends the session
abbrev pub tightened_to : Session → Tight → AfterCut
tightened_to s t =
    cond t.found (record { answer = record { refusal = 0; changed = length (changed_days s.days s.present (ranges_of t)) }; session = with_present s (ranges_of t) })
    (refusing 8 (spend s))

-- what a cut gives, where the list for changed days is that long
unfoldable pub after_cut : Session → Cut → ℕ → AfterCut
after_cut s c room = cond (eqb (early_cutting s c room) 0) (tightened_to s (retightened s (clipped s.present c))) (refusing (early_cutting s c room) s)

-- the same for a cut given by numbers: an unknown kind is 12
abbrev pub early_numbered : Session → Option Cut → ℕ → ℕ
early_numbered s (Some c) room = early_cutting s c room
early_numbered s None room = 12

unfoldable pub after_numbered : Session → Option Cut → ℕ → AfterCut
after_numbered s (Some c) room = after_cut s c room
after_numbered s None room = refusing 12 s

-- the lent list afterwards: as it was beside a refusal, else with the changed days at its front
unfoldable pub list_after : Session → AfterCut → List ℕ → List ℕ
list_after s r l = cond (eqb r.answer.refusal 0) (in_front (changed_days s.days s.present r.session.present) l) l
