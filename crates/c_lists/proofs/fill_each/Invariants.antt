-- `fill_each` meets its contract: the first j places hold what the calls give (`Filled`), whatever f says so.
use Prim.Native.Nat.{ℕ, ◌<◌}
use mathlib.Core.Path.{◌≡◌}
use Rattle.theory_lists.specs.Filled.{Filled}
use Rattle.c_lists.proofs.fill_each.Given as goal

abbrev pub invariant-loop-j : goal.invariant-loop-j
invariant-loop-j g l =
    (f : ℕ → _) → ((k : ℕ) (x : _) → k < l.n → goal.F-post g l.element k x → x ≡ f k) → Filled f l.n l.j l.initial.out l.out
