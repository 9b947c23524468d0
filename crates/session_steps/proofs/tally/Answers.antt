-- `tally` meets its contract: a width fell where it is not 0 less.
use mathlib.Core.Path.{refl}
use native.Mathlib.Omega.{arith}
use borrow.Author.Rules.{rules}
use borrow.Author.Tests.{lt-ltb, le-ltb}
use Prim.Native.Nat.{◌-◌}
use Rattle.session_steps.proofs.tally.Goals as goal

pub returns-then-after-before : goal.returns-then-after-before
returns-then-after-before c = let a = c.args in rw (lt-ltb 0 (a.before - a.after) (omega (arith, c.if-after-before.true))) refl

pub returns-else-after-before : goal.returns-else-after-before
returns-else-after-before c = let a = c.args in rw (le-ltb 0 (a.before - a.after) (omega (arith, c.if-after-before.false))) refl
