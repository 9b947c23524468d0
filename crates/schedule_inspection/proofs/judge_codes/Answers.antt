-- `judge_codes` meets its contract: a law of Stages for each return. Which rules are kept so far is said once, where each test has found nothing.
use Rattle.schedule_inspection.proofs.Stages.{RisesKept, seen, day-broken, rise-broken, total-broken, none-broken}
use Rattle.schedule_inspection.proofs.judge_codes.Goals as goal
use Rattle.schedule_inspection.proofs.judge_codes.Goals.{After-is_total_outside}

pub returns-in-Some : goal.returns-in-Some
returns-in-Some c = let h = seen _ _ _ (rw c.in-Some.is at c.first_outside.ensures) in day-broken _ _ _ _ _ _ _ _ h.0 h.1

pub returns-in-Some-first_fallen : goal.returns-in-Some-first_fallen
returns-in-Some-first_fallen c =
    let h = seen _ _ _ (rw c.in-Some-first_fallen.is at c.first_fallen.ensures) in
    rise-broken _ _ _ _ _ _ _ _ (record { days = seen _ _ _ (rw c.in_default.is at c.first_outside.ensures) }) h.0 h.1

rises-kept : (c : After-is_total_outside) → let a = c.args in RisesKept a.setpoints.now a.floors.now a.ceilings.now a.rises.now a.n
rises-kept c = record {
  before = record { days = seen _ _ _ (rw c.in_default.is at c.first_outside.ensures) };
  rises = seen _ _ _ (rw c.in_default-first_fallen.is at c.first_fallen.ensures);
}

pub returns-then-is_total_outside : goal.returns-then-is_total_outside
returns-then-is_total_outside c =
    total-broken _ _ _ _ _ _ _ _ (rises-kept (goal.at.returns-then-is_total_outside c).After-is_total_outside) c.is_total_outside.ensures c.if-is_total_outside.true

pub returns : goal.returns
returns c = none-broken _ _ _ _ _ _ _ _ (rises-kept (goal.at.returns c).After-is_total_outside) c.is_total_outside.ensures c.if-is_total_outside.false
