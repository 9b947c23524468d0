-- `write_day` meets its contract: a law of Stages for each return. That the value is taken, and the levels written through it, is said once.
use mathlib.Core.Path.{◌≡◌, refl}
use mir.Facts.{to_z-of_z}
use native.Mathlib.Omega.{arith}
use borrow.Author.Rules.{rules}
use Rattle.std.specs.Prelude.{Err}
use Rattle.refusals.proofs.Laws.{refused}
use Rattle.schedule_writing.specs.Writing.{day_levels}
use Rattle.schedule_writing.proofs.Levels.{Standing}
use Rattle.schedule_writing.proofs.Stages.{DayTaken, day_asks, day_standing, day-length, day_unknown, day-refused, day-written}
use Rattle.schedule_writing.proofs.write_day.Goals as goal
use Rattle.schedule_writing.proofs.write_day.Goals.{After-write_through, In_ok-level}

taken : (c : In_ok-level) → let a = c.args in DayTaken a.session a.day a.value c.in_ok-level.level
taken c = record { bounds = c.requires; known = c.if-n-day.false; right = rw (to_z-of_z c.ranges.value) at c.in_ok-level.ensures }

levels : (c : After-write_through) → let a = c.args in Standing (day_levels a.session a.day a.value) a.session.days c.write_through.new.floors
levels c = day_standing (record { bounds = c.requires; known = c.if-n-day.false; right = rw (to_z-of_z c.ranges.value) at c.in_ok-level.ensures }) c.write_through.ensures.floors_after

pub returns-then-list-n : goal.returns-then-list-n
returns-then-list-n c = let whole = day-length _ _ _ _ c.if-list-n.true in record { value = whole.0; list_after = whole.1 }

pub returns-then-n-day : goal.returns-then-n-day
returns-then-n-day c = let whole = day_unknown _ _ _ _ c.if-list-n.false c.if-n-day.true in record { value = whole.0; list_after = whole.1 }

pub check_day-requires : goal.check_day-requires
check_day-requires c = c.requires.present.ceiling _ c.if-n-day.false

pub returns-in_err-level : goal.returns-in_err-level
returns-in_err-level c =
    let e : c.from_residual.result ≡ Err c.in_err-level.field-0.0 = search rules in
    let whole = day-refused _ _ _ _ c.if-list-n.false c.if-n-day.false (rw (to_z-of_z c.ranges.value) at c.in_err-level.ensures) (refused _) in
    record { value = rw e whole.0; list_after = whole.1 }

pub write_through-requires : goal.write_through-requires
write_through-requires c = day_asks (taken (goal.at.write_through-requires c).In_ok-level)

pub decode_all-requires : goal.decode_all-requires
decode_all-requires c = (refl, search rules, search rules, λ k h. omega (arith, (levels (goal.at.decode_all-requires c).After-write_through).small k h))

pub returns : goal.returns
returns c =
    let whole = day-written _ _ _ _ c.if-list-n.false (taken (goal.at.returns c).In_ok-level) (levels (goal.at.returns c).After-write_through) c.decode_all.ensures in
    record { value = whole.0; list_after = whole.1 }
