-- `counted_sum` meets its contract: the sum of the part from the first counted day on is that of the counted days.
use Rattle.std.proofs.Common.{arith}
use Rattle.theory_lists.specs.Sum.{sum_slice}
use Rattle.theory_method.specs.Counted.{counted-sum}
use Rattle.base_arrays.proofs.counted_sum.Goals as goal

pub returns : goal.returns
returns c = grind (arith, sum_slice, counted-sum)
