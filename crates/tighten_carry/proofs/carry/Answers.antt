use Rattle.tighten_carry.proofs.Laws.{upto-none, upto-more, upto-crossed, upto_all}
use Rattle.tighten_carry.proofs.carry.Goals as goal

pub loop-i-init : goal.loop-i-init
loop-i-init c = upto-none

pub returns-then-ceilings-k : goal.returns-then-ceilings-k
returns-then-ceilings-k c =
    let left = upto-crossed c.loop-i.invariant c.loop-i-test.true c.max.ensures c.if-ceilings-k.true in record { value = left.0; floors_after = left.1 }

pub loop-i-preserved : goal.loop-i-preserved
loop-i-preserved c = upto-more c.loop-i.invariant c.loop-i-test.true c.max.ensures c.if-ceilings-k.false

pub returns : goal.returns
returns c = let left = upto_all c.loop-i.invariant c.loop-i-test.false in record { value = left.0; floors_after = left.1 }
