-- `cut_all` meets its contract: the first j cuts are made, from whatever session was held (`Making` of Laws).
use Prim.Native.Nat.{◌-◌}
use Rattle.c_sheets.proofs.Laws.{Making}
use Rattle.c_sheets.proofs.cut_all.Given as goal

abbrev pub invariant-loop-j : goal.invariant-loop-j
invariant-loop-j l =
    Making l.cuts l.initial.answers l.count l.initial.at l.rises l.initial.floors l.initial.ceilings l.initial.widths l.j l.at l.floors l.ceilings l.widths l.answers
