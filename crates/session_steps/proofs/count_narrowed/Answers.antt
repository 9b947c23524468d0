use Prim.Native.Nat.{◌-◌}
use mathlib.Core.Path.{refl}
use borrow.Author.Rules.{rules}
use native.Mathlib.Omega.{arith}
use Rattle.session_steps.proofs.Laws.{Tallied, tallied-none, tallied_few, tallied-more, tallied-all}
use Rattle.session_steps.proofs.count_narrowed.Goals as goal

pub tally-count-requires : goal.tally-count-requires
tally-count-requires c = omega (arith, tallied_few c.loop-k.invariant, c.requires)

pub loop-k-preserved : goal.loop-k-preserved
loop-k-preserved c =
    tallied-more c.loop-k.invariant c.loop-k-test.true refl c.saturating_sub-after.ensures c.tally-count.ensures

pub returns : goal.returns
returns c = let whole = tallied-all c.loop-k.invariant c.loop-k-test.false in record { value = whole.0; widths_after = whole.1 }

pub loop-k-init : goal.loop-k-init
loop-k-init c = tallied-none
