-- `carry_back` meets its contract. At its loop's head the days from i on are carried (`Backing` of Laws).
use Rattle.tighten_carry.proofs.Laws.{Backing}
use Rattle.tighten_carry.proofs.carry_back.Given as goal

abbrev pub invariant-loop-i : goal.invariant-loop-i
invariant-loop-i l = Backing l.initial.levels l.rises l.n l.levels l.high l.i
