-- `store_days` meets its contract: at its loop's head the ranges of the days below this one are stored, and what each of those days lost is written
-- (`Ranged` of Days).
use Rattle.theory_lists.specs.Sum.{at}
use Rattle.c_storing.proofs.Days.{Ranged}
use Rattle.c_storing.proofs.store_days.Given as goal

abbrev pub invariant-loop-j : goal.invariant-loop-j
invariant-loop-j l = Ranged l.initial.out (at l.floors) (at l.ceilings) l.n l.j l.initial.losses l.out l.losses
