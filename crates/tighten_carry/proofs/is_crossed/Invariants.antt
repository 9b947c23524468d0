-- `is_crossed` meets its contract: the flag tells of the days below i (`Told`).
use lib.Dec.{ltb}
use Rattle.theory_lists.specs.Sum.{at}
use Rattle.theory_lists.specs.Some.{Told}
use Rattle.tighten_carry.proofs.is_crossed.Given as goal

abbrev pub invariant-loop-i : goal.invariant-loop-i
invariant-loop-i l = Told (λ k. ltb (at l.ceilings k) (at l.floors k)) l.n l.i l.crossed
