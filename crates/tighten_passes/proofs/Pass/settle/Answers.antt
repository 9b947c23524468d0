use Rattle.tighten_passes.proofs.Laws.{settled}
use Rattle.tighten_passes.proofs.Pass.settle.Goals as goal

pub returns : goal.returns
returns g c =
    (c.loop-at.invariant.0, settled c.loop-at.invariant.1 (λ m. rw c.loop-at.invariant.0 at (c.sticks.ensures.top_lt_v c.loop-at-test.false m)))
