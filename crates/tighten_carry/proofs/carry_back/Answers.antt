use Rattle.std.proofs.Common.{rules}
use Rattle.tighten_carry.proofs.Laws.{back_start, back_turn, back_end}
use Rattle.tighten_carry.proofs.carry_back.Goals as goal

pub loop-i-init : goal.loop-i-init
loop-i-init c = back_start (search rules)

pub loop-i-preserved : goal.loop-i-preserved
loop-i-preserved c = back_turn c.loop-i.invariant c.loop-i-test.true c.saturating_sub-allowed.ensures c.min-high.ensures (search rules)

pub returns : goal.returns
returns c = back_end c.loop-i.invariant c.loop-i-test.false
