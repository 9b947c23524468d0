-- `raise_floors` meets its contract. At its loop's head the days before i hold the definition's floors (`Raising` of Laws).
use Rattle.tighten_passes.proofs.Laws.{Raising}
use Rattle.tighten_passes.proofs.raise_floors.Given as goal

abbrev pub invariant-loop-i : goal.invariant-loop-i
invariant-loop-i l =
    Raising l.initial.floors l.ceilings l.rises l.n l.first l.margin l.floors l.here l.rise l.day.v l.day.past l.day.count l.day.room l.day.top l.day.end l.i
