-- `carry` meets its contract. At its loop's head, `Upto` of Laws, the floors below i are carried and uncrossed.
use Rattle.tighten_carry.proofs.Laws.{Upto}
use Rattle.tighten_carry.proofs.carry.Given as goal

abbrev pub invariant-loop-i : goal.invariant-loop-i
invariant-loop-i l = Upto l.initial.floors l.ceilings l.rises l.n l.i l.up l.floors
