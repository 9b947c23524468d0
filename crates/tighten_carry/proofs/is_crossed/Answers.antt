use mathlib.Core.Path.{refl, ◌∙◌}
use Rattle.theory_lists.specs.Some.{told_none, told_more, told_all, some_first}
use Rattle.tighten_carry.proofs.is_crossed.Goals as goal

pub loop-i-init : goal.loop-i-init
loop-i-init c = told_none

pub loop-i-preserved : goal.loop-i-preserved
loop-i-preserved c = told_more c.loop-i.invariant c.loop-i-test.true refl

pub returns : goal.returns
returns c = told_all c.loop-i.invariant c.loop-i-test.false ∙ some_first _ _
