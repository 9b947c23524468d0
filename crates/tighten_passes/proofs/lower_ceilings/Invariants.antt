-- `lower_ceilings` meets its contract. At its loop's head the days from i on hold the definition's ceilings (`Lowering` of Laws).
use Rattle.tighten_passes.proofs.Laws.{Lowering}
use Rattle.tighten_passes.proofs.lower_ceilings.Given as goal

abbrev pub invariant-loop-i : goal.invariant-loop-i
invariant-loop-i l =
    Lowering l.floors l.initial.ceilings l.rises l.n l.first l.margin l.ceilings l.here l.day.v l.day.past l.day.count l.day.room l.day.top l.day.end l.i
