-- `decode_all` meets its contract: the first k codes are decoded (`Filled`).
use lib.ListN.{get_or}
use Rattle.theory_lists.specs.Filled.{Filled}
use Rattle.base_codes.specs.Code.{decoded}
use Rattle.base_codes.proofs.decode_all.Given as goal

abbrev pub invariant-loop-k : goal.invariant-loop-k
invariant-loop-k l = Filled (λ j. decoded l.low (get_or l.codes j 0)) l.n l.k l.initial.out l.out
