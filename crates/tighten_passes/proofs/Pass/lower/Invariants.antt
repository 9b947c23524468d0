-- `lower` meets its contract. At its loop's head each level above, up to the first, is over the margin; the measure is the level.
use Rattle.tighten_passes.specs.View.{viewed, viewed_rises}
use Rattle.tighten_passes.proofs.Laws.{Stand}
use Rattle.tighten_passes.proofs.Pass.lower.Given as goal

abbrev pub invariant-loop-at : goal.invariant-loop-at
invariant-loop-at g l =
    let p = l.self in
    Stand (viewed g.E.End.back p.floors.now p.n) (viewed_rises g.E.End.back p.rises.now p.n p.days) p.days l.i p.margin l.initial.at.v l.at.v l.at.past l.at.count l.at.room l.at.top l.at.end

abbrev pub decreases-loop-at : goal.decreases-loop-at
decreases-loop-at g l = l.at.v
