use Rattle.tighten_passes.proofs.Laws.{plain_sight, lowering_start, lowering_asks, lowering_enters, lowering_shown, lowering_turn, lowering_end}
use Rattle.tighten_passes.proofs.lower_ceilings.Goals as goal

pub loop-i-init : goal.loop-i-init
loop-i-init c = rw c.start-day.ensures (lowering_start c.requires.0 c.requires.1 c.shift_before.ensures.0)

pub shift_before-here-requires : goal.shift_before-here-requires
shift_before-here-requires c = lowering_asks c.requires.0 c.loop-i.invariant c.loop-i-test.true

pub lower_day-day-requires : goal.lower_day-day-requires
lower_day-day-requires c =
    let p = c.requires in
    record { sight = plain_sight p.0; entering = lowering_enters p.0 c.loop-i.invariant c.loop-i-test.true c.shift_before-here.ensures.0 p.2 }

pub shown-requires : goal.shown-requires
shown-requires c = lowering_shown c.requires.0 c.loop-i.invariant c.loop-i-test.true c.shift_before-here.ensures.0 c.lower_day-day.ensures

pub loop-i-preserved : goal.loop-i-preserved
loop-i-preserved c = lowering_turn c.requires.0 c.loop-i.invariant c.loop-i-test.true c.shift_before-here.ensures.0 c.lower_day-day.ensures c.shown.ensures

pub returns : goal.returns
returns c = lowering_end c.requires.0 c.loop-i.invariant c.requires.1 c.loop-i-test.false c.carry_back.ensures
