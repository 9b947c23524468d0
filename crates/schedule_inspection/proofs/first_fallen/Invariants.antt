-- `first_fallen` meets its contract: no rise below the counter is broken.
use Prim.Native.Nat.{◌-◌}
use Rattle.theory_lists.specs.First.{Nowhere}
use Rattle.schedule_inspection.specs.Stages.{fallen}
use Rattle.schedule_inspection.proofs.first_fallen.Given as goal

abbrev pub invariant-loop-k : goal.invariant-loop-k
invariant-loop-k l = Nowhere (fallen l.setpoints l.rises) (l.n - 1) l.k
