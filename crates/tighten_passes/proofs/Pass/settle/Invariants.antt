-- `settle` meets its contract. At its loop's head the level is as it was, and the days past the window are at it or above; the measure is the window's end.
use mathlib.Core.Path.{◌≡◌}
use Rattle.tighten_passes.specs.View.{viewed, viewed_rises}
use Rattle.tighten_passes.specs.Pass.{Open}
use Rattle.tighten_passes.proofs.Pass.settle.Given as goal

abbrev pub invariant-loop-at : goal.invariant-loop-at
invariant-loop-at g l =
    let p = l.self in
    (l.at.v ≡ l.initial.at.v) × Open (viewed g.E.End.back p.floors.now p.n) (viewed_rises g.E.End.back p.rises.now p.n p.days) p.days l.i p.margin l.initial.at.v l.at.past l.at.count l.at.room l.at.top l.at.end

abbrev pub decreases-loop-at : goal.decreases-loop-at
decreases-loop-at g l = l.at.past
