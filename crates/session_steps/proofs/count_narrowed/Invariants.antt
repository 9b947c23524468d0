-- `count_narrowed` meets its contract: the widths of the days below k are left, and those that fell are counted (`Tallied` of Laws).
use Prim.Native.Nat.{◌-◌}
use mathlib.Core.Path.{refl}
use borrow.Author.Rules.{rules}
use native.Mathlib.Omega.{arith}
use Rattle.session_steps.proofs.Laws.{Tallied, tallied-none, tallied_few, tallied-more, tallied-all}
use Rattle.session_steps.proofs.count_narrowed.Given as goal

abbrev pub invariant-loop-k : goal.invariant-loop-k
invariant-loop-k l = Tallied l.floors l.ceilings l.n l.initial.widths l.k l.count l.widths
