-- Document 01: inspecting a schedule that somebody wrote.
use Rattle.std.specs.Prelude.{◌≡◌, Bool, cond, not, List, ℕ, ◌+◌, ◌-◌, ℤ, ◌+ℤ◌, eqb, ltb, length, Result, Ok, Err}
use Rattle.std.specs.Int.Signed.{lt_z}
use Rattle.theory_lists.specs.First.{first_where}
use Rattle.base_codes.specs.Code.{within, on}
use Rattle.session.specs.Profile.{total}
use Rattle.session.specs.Showing.{floor_on, ceiling_on, rise_on, total_floor, total_ceiling}
use Rattle.session.specs.declared.Session.{Session}
use Rattle.refusals.specs.declared.Refusal.{Refusal}
use Rattle.refusals.specs.Number.{refusal_number}
use Rattle.schedule_inspection.specs.declared.Finding as Code
use Rattle.schedule_inspection.specs.declared.Finding.TheVariants.{Kept, BrokenDay, BrokenRise, BrokenTotal}

-- ---- the rules, by the session's present ranges, for a list x of setpoints

-- the setpoint of day i is outside the day's range
abbrev pub broken_day : Session → List ℤ → ℕ → Bool
broken_day s x i = not (within (floor_on s i) (ceiling_on s i) (on x i))

-- the setpoint of day i + 1 is below that of day i plus the rise between them
abbrev pub broken_rise : Session → List ℤ → ℕ → Bool
broken_rise s x i = lt_z (on x (i + 1)) (on x i +ℤ rise_on s i)

-- the total is outside its range
abbrev pub broken_total : Session → List ℤ → Bool
broken_total s x = not (within (total_floor s) (total_ceiling s) (total s.first x))

-- ---- the answer by numbers

-- the refusal's number, 0 for none; the rule that is broken, 0 for none, 1 for a day's range, 2 for a rise, 3 for the total's range; and the number
-- of the day or rise
pub record Finding : Type 0 where
  pub refusal : ℕ
  pub rule : ℕ
  pub place : ℕ

abbrev pub refused : ℕ → Finding
refused number = record { refusal = number; rule = 0; place = 0 }

abbrev pub kept : Finding
kept = record { refusal = 0; rule = 0; place = 0 }

abbrev pub broken : ℕ → ℕ → Finding
broken rule place = record { refusal = 0; rule = rule; place = place }

-- what each case of the answer says
abbrev pub found : Code.Finding → Finding
found Kept = kept
found (BrokenDay day) = broken 1 day
found (BrokenRise rise) = broken 2 rise
found BrokenTotal = broken 3 0

abbrev pub finding : Result Code.Finding Refusal → Finding
finding (Ok answer) = found answer
finding (Err refusal) = refused (refusal_number refusal)

-- no two say the same
abbrev pub FindingOne : Type 0
FindingOne = (a b : Result Code.Finding Refusal) → finding a ≡ finding b → a ≡ b

-- ---- inspecting

-- the first broken rule: days in order, then rises in order, then the total
unfoldable pub judged : Session → List ℤ → Finding
judged s x =
    let day : ℕ = first_where (broken_day s x) s.days in
    let rise : ℕ = first_where (broken_rise s x) (s.days - 1) in
    cond (ltb day s.days) (broken 1 day)
    (cond (ltb rise (s.days - 1)) (broken 2 rise)
    (cond (broken_total s x) (broken 3 0) kept))

-- 2: the list is not n long; 9: the session is spent
unfoldable pub inspected : Session → List ℤ → Finding
inspected s x =
    cond (not (eqb (length x) s.days)) (refused 2)
    (cond s.spent (refused 9) (judged s x))
