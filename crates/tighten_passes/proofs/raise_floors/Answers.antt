use Rattle.std.proofs.Common.{ℕ, ◌-◌, ap, ◌∙◌, arith}
use Rattle.limits.specs.Limits.{highest_level}
use Rattle.tighten_passes.proofs.Laws.{back_sight, raising_start, raising_old, raising_asks, raising_enters, raising_shown, raising_turn, raising_end}
use Rattle.tighten_passes.proofs.raise_floors.Goals as goal

pub loop-i-init : goal.loop-i-init
loop-i-init c = rw c.start-day.ensures (raising_start c.requires.0 c.requires.1 (omega arith) c.mirror_level.ensures c.mirror_level-2.ensures)

pub shift_before-here-requires : goal.shift_before-here-requires
shift_before-here-requires c = raising_asks c.requires.0 c.requires.1 c.loop-i.invariant c.loop-i-test.true

pub mirror_level-requires-in-loop-i : goal.mirror_level-requires-in-loop-i
mirror_level-requires-in-loop-i c = raising_old c.requires.0 c.requires.1 c.loop-i.invariant c.loop-i-test.true

pub lower_day-day-requires : goal.lower_day-day-requires
lower_day-day-requires c =
    let p = c.requires in
    record {
      sight = back_sight p.0 (omega arith) (omega arith);
      entering = raising_enters p.0 p.1 c.loop-i.invariant c.loop-i-test.true c.shift_before-here.ensures.0 c.mirror_level-in-loop-i.ensures c.mirror_level-in-loop-i-2.ensures p.2;
    }

pub shown-requires : goal.shown-requires
shown-requires c =
    raising_shown c.requires.0 c.requires.1 c.loop-i.invariant c.loop-i-test.true c.shift_before-here.ensures.0 c.mirror_level-in-loop-i.ensures
    c.mirror_level-in-loop-i-2.ensures c.lower_day-day.ensures

pub loop-i-preserved : goal.loop-i-preserved
loop-i-preserved c =
    raising_turn c.requires.0 c.requires.1 c.loop-i.invariant c.loop-i-test.true c.shift_before-here.ensures.0 c.mirror_level-in-loop-i.ensures
    c.mirror_level-in-loop-i-2.ensures c.lower_day-day.ensures (c.mirror_level-in-loop-i-3.ensures ∙ ap (λ (x : ℕ). highest_level - x) c.shown.ensures)

pub returns : goal.returns
returns c = raising_end c.requires.0 c.requires.1 c.loop-i.invariant c.loop-i-test.false
