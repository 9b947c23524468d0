-- `read_days` meets its contract: the first k days are read (`Filled`).
use Prim.Native.Nat.{◌*◌}
use Rattle.theory_lists.specs.Filled.{Filled}
use Rattle.base_little_endian.specs.Fields.{u16_at}
use Rattle.session_changed.proofs.read_days.Given as goal

abbrev pub invariant-loop-k : goal.invariant-loop-k
invariant-loop-k l = Filled (λ j. u16_at l.cells (j * 2)) l.count l.k l.initial.days l.days
