use Rattle.std.proofs.Common.{arith}
use Rattle.schedule_raising.proofs.Laws.{raising_start, raising_asks, raising_level, raising_turn, raising_end}
use Rattle.schedule_raising.proofs.raise_to.Goals as goal

pub loop-i-init : goal.loop-i-init
loop-i-init c = (raising_start (rw c.held_total.ensures.0 at c.saturating_sub.ensures) (omega (arith, c.requires.highest)), omega (arith, c.requires.counts))

pub raise_day-day-requires : goal.raise_day-day-requires
raise_day-day-requires c = raising_asks c.requires c.loop-i.invariant.0 c.loop-i-test.true

pub overflow_cast-floors-in-loop-i : goal.overflow_cast-floors-in-loop-i
overflow_cast-floors-in-loop-i c =
    record { fits = omega (arith, raising_level c.requires c.loop-i.invariant.0 c.loop-i-test.true c.raise_day-day.ensures) }

pub loop-i-preserved : goal.loop-i-preserved
loop-i-preserved c = (raising_turn c.requires c.loop-i.invariant.0 c.loop-i-test.true c.raise_day-day.ensures, omega arith)

pub returns : goal.returns
returns c = raising_end c.args.first c.loop-i.invariant.0 c.loop-i.invariant.1 c.loop-i-test.false
