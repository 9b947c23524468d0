-- `sum` meets its contract: at its loop's head stands the sum of the levels before level k.
use Rattle.std.proofs.Common.{◌≡◌, ◌*◌, ◌≤◌}
use Rattle.theory_lists.specs.Sum.{sum_for, at}
use Rattle.base_arrays.proofs.sum.Given as goal

abbrev pub invariant-loop-k : goal.invariant-loop-k
invariant-loop-k l = (l.total ≡ sum_for (at l.levels) 0 l.k) × (l.total ≤ l.k * 65535)
