use Rattle.std.proofs.Common.{◌≡◌, ◌+◌, ap, sym, arith}
use Rattle.theory_lists.specs.Sum.{at, sum-none, sum_back}
use Rattle.base_arrays.proofs.sum.Goals as goal

pub loop-k-init : goal.loop-k-init
loop-k-init c = (sym (sum-none (at c.args.levels.now) 0), omega arith)

pub loop-k-preserved : goal.loop-k-preserved
loop-k-preserved c =
    let levels = c.args.levels.now in
    let k = c.loop-k.k in
    let z : 0 + k ≡ k = omega arith in
    (omega (arith, sum_back (at levels) 0 k, ap (at levels) z), omega (arith, c.type_inv.levels k))
