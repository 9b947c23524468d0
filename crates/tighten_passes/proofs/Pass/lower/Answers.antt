use Prim.Native.Nat.{◌*◌, ◌<◌}
use borrow.Author.Tests.{ltb-true, ltb-false}
use Rattle.tighten_passes.proofs.Laws.{stand_done, stand_less, stand_turn}
use Rattle.tighten_passes.proofs.Pass.lower.Goals as goal
use Rattle.tighten_passes.proofs.Pass.lower.Goals.{In-loop-at}

-- a turn's level is over the margin
above : (g : _) (c : In-loop-at g) → let at = c.loop-at.at in at.room < at.count * at.v
above g c = let at = c.loop-at.at in ltb-true at.room (at.count * at.v) (rw c.is_over.ensures at c.loop-at-test.true)

pub loop-at-smaller : goal.loop-at-smaller
loop-at-smaller g c =
    stand_less c.requires.sight.carried c.loop-at.invariant (above g (goal.at.loop-at-smaller g c).In-loop-at) c.round-at.ensures

pub loop-at-preserved : goal.loop-at-preserved
loop-at-preserved g c =
    stand_turn c.requires.sight.carried c.loop-at.invariant (above g (goal.at.loop-at-preserved g c).In-loop-at) c.round-at.ensures

pub returns : goal.returns
returns g c =
    let at = c.loop-at.at in
    let within = ltb-false at.room (at.count * at.v) (rw c.is_over.ensures at c.loop-at-test.false) in
    stand_done c.requires.sight.carried c.loop-at.invariant c.settle-at.ensures.0 within
