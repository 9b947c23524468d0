-- Document 01: writing a schedule for a day, or for the total, and a value. Which schedule it is need not be believed: that it is one, with the value,
-- is `Writing` of promises.
use Rattle.std.specs.Prelude.{cond, not, List, ℕ, ℤ, eqb, ltb, length, set}
use Rattle.limits.specs.Limits.{lowest_point, lowest_total}
use Rattle.theory_lists.specs.Sum.{at}
use Rattle.base_codes.specs.Code.{within, code, decoded}
use Rattle.theory_method.specs.Filter.{carried, first_crossed, forwarded}
use Rattle.theory_lists.specs.Lent.{lent_list}
use Rattle.session.specs.Showing.{floor_on, ceiling_on, total_floor, total_ceiling}
use Rattle.session.specs.declared.Session.{Session}
use Rattle.schedule_raising.specs.Raising.{raised_to}

-- ---- the refusals

-- the first refusal of writing for a day that applies, or 0, where the list is `room` long. 2: it is not n long; 7: a day not in the profile; 9: the
-- session is spent; 10: the value is outside the day's present range
unfoldable pub day_write_refusal : Session → ℕ → ℤ → ℕ → ℕ
day_write_refusal s day value room =
    cond (not (eqb room s.days)) 2
    (cond (not (ltb day s.days)) 7
    (cond s.spent 9
    (cond (not (within (floor_on s day) (ceiling_on s day) value)) 10 0)))

-- the same for the total
unfoldable pub total_write_refusal : Session → ℤ → ℕ → ℕ
total_write_refusal s value room =
    cond (not (eqb room s.days)) 2
    (cond s.spent 9
    (cond (not (within (total_floor s) (total_ceiling s) value)) 10 0))

-- ---- the schedule, in levels: floors, raised from the last day on (`raised_to` of schedule_raising)

-- with the total's value: the present floors, raised to it
unfoldable pub total_levels : Session → ℤ → ℕ → ℕ
total_levels s value = raised_to s.present.floors s.present.ceilings s.rises s.days s.first (code lowest_total value)

-- with a level on a day: it is the day's floor and ceiling, the floors are carried forward, and raised to the total's floor where their sum is below it
abbrev pub levels_through : List ℕ → List ℕ → List ℕ → ℕ → ℕ → ℕ → ℕ → ℕ → ℕ → ℕ
levels_through floors ceilings rises n first lowest day level =
    let fs : List ℕ = set floors day level in
    let cs : List ℕ = set ceilings day level in
    raised_to (forwarded fs rises (first_crossed (carried fs rises) (at cs) n)) cs rises n first lowest

-- with a day's value: the present floors, with the value's level on the day
unfoldable pub day_levels : Session → ℕ → ℤ → ℕ → ℕ
day_levels s day value = levels_through s.present.floors s.present.ceilings s.rises s.days s.first s.present.lowest day (code lowest_point value)

-- ---- the lent list afterwards: as it was beside a refusal, else the schedule

unfoldable pub day_written : Session → ℕ → ℤ → List ℤ → List ℤ
day_written s day value l = lent_list (day_write_refusal s day value (length l)) (λ k. decoded lowest_point (day_levels s day value k)) s.days l

unfoldable pub total_written : Session → ℤ → List ℤ → List ℤ
total_written s value l = lent_list (total_write_refusal s value (length l)) (λ k. decoded lowest_point (total_levels s value k)) s.days l
