-- `round` meets its contract: what it lowers the level to is document 01's round.
use mathlib.Core.Path.{refl}
use Rattle.tighten_passes.proofs.Laws.{round_even, top_open, round_top}
use Rattle.tighten_passes.proofs.Pass.round.Goals as goal

pub returns-then-w-even : goal.returns-then-w-even
returns-then-w-even g c = rw c.lowered_to.ensures (round_even c.requires.sight.carried c.requires.overloaded refl c.if-w-even.true)

pub settle-requires-clause-fact : goal.settle-requires-clause-fact
settle-requires-clause-fact g c = rw c.lowered_to-2.ensures (top_open c.requires.sight.carried c.requires.overloaded refl c.if-w-even.false)

pub returns : goal.returns
returns g c =
    round_top c.requires.sight.carried c.requires.overloaded refl c.if-w-even.false (rw c.lowered_to-2.ensures at c.settle.ensures)
