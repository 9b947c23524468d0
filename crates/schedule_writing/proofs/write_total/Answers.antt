-- `write_total` meets its contract: a law of Stages for each return. That the value is taken, and the levels raised to it, is said once.
use mathlib.Core.Path.{◌≡◌, refl}
use mir.Facts.{to_z-of_z}
use native.Mathlib.Omega.{arith}
use borrow.Author.Rules.{rules}
use Rattle.std.specs.Prelude.{Err}
use Rattle.refusals.proofs.Laws.{refused}
use Rattle.schedule_writing.specs.Writing.{total_levels}
use Rattle.schedule_writing.proofs.Levels.{Standing}
use Rattle.schedule_writing.proofs.Stages.{TotalTaken, total_asks, total_standing, total-length, total-refused, total-written}
use Rattle.schedule_writing.proofs.write_total.Goals as goal
use Rattle.schedule_writing.proofs.write_total.Goals.{After-raise_to, In_ok-total}

taken : (c : In_ok-total) → let a = c.args in TotalTaken a.session a.value c.in_ok-total.total
taken c = record { bounds = c.requires; right = rw (to_z-of_z c.ranges.value) at c.in_ok-total.ensures }

raised : (c : After-raise_to) → let a = c.args in Standing (total_levels a.session a.value) a.session.days c.raise_to.new.floors
raised c = total_standing (record { bounds = c.requires; right = rw (to_z-of_z c.ranges.value) at c.in_ok-total.ensures }) c.raise_to.ensures

pub returns-then-list-n : goal.returns-then-list-n
returns-then-list-n c = let whole = total-length _ _ _ c.if-list-n.true in record { value = whole.0; list_after = whole.1 }

pub returns-in_err-total : goal.returns-in_err-total
returns-in_err-total c =
    let e : c.from_residual.result ≡ Err c.in_err-total.field-0.0 = search rules in
    let whole = total-refused _ _ _ c.if-list-n.false (rw (to_z-of_z c.ranges.value) at c.in_err-total.ensures) (refused _) in
    record { value = rw e whole.0; list_after = whole.1 }

pub raise_to-requires : goal.raise_to-requires
raise_to-requires c = total_asks (taken (goal.at.raise_to-requires c).In_ok-total)

pub decode_all-requires : goal.decode_all-requires
decode_all-requires c = (refl, search rules, search rules, λ k h. omega (arith, (raised (goal.at.decode_all-requires c).After-raise_to).small k h))

pub returns : goal.returns
returns c =
    let whole = total-written _ _ _ c.if-list-n.false (taken (goal.at.returns c).In_ok-total) (raised (goal.at.returns c).After-raise_to) c.decode_all.ensures in
    record { value = whole.0; list_after = whole.1 }
