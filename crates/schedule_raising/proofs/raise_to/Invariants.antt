-- `raise_to` meets its contract. At its loop's head the days from i on hold the definition's levels. What a turn reads is said once.
use Prim.Native.Nat.{◌-◌, ◌≤◌}
use Rattle.theory_lists.specs.Sum.{at}
use Rattle.theory_method.specs.Filter.{held}
use Rattle.schedule_raising.proofs.Laws.{Raising}
use Rattle.schedule_raising.proofs.raise_to.Given as goal

abbrev pub invariant-loop-i : goal.invariant-loop-i
invariant-loop-i l = Raising l.initial.floors l.ceilings l.rises l.n (l.total - held l.n l.first (at l.initial.floors)) l.floors l.day l.i × (l.first ≤ l.i)
