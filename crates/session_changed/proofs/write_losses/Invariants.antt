-- `write_losses` meets its contract: the losses of the days below k are written (`Filled`).
use Rattle.theory_lists.specs.Filled.{Filled}
use Rattle.session_changed.specs.Changes.{lost}
use Rattle.session_changed.proofs.write_losses.Given as goal

abbrev pub invariant-loop-k : goal.invariant-loop-k
invariant-loop-k l = Filled (lost l.floors l.ceilings l.low l.high) l.n l.k l.initial.losses l.losses
