-- `tighten` meets its contract: what each stage leaves is said once, as a record of Stage at the place where it is done, from the record before it;
-- a law for each return.
use native.Mathlib.Omega.{arith}
use Rattle.tighten_filtering.specs.Boxed.{boxed}
use Rattle.tighten_filtering.proofs.Stage.{Carried, Lowered, Narrowed, carries, tight_crossed, carried-ready, tight_over, lowered_raisable, tight_apart, tight_found}
use Rattle.tighten_filtering.proofs.tighten.Goals as goal
use Rattle.tighten_filtering.proofs.tighten.Goals.{After-lower_ceilings, After-min-high, Else-carry-n}

carried : (c : Else-carry-n) → let a = c.args in Carried (boxed a.floors.now a.ceilings.now a.rises.now a.numbers) c.carry.new.floors
carried c = carries c.requires c.carry.ensures.value c.carry.ensures.floors_after c.if-carry-n.false

lowered : (c : After-lower_ceilings) → let a = c.args in Carried (boxed a.floors.now a.ceilings.now a.rises.now a.numbers) c.carry.new.floors
    → Lowered (boxed a.floors.now a.ceilings.now a.rises.now a.numbers) c.carry.new.floors c.held_total-bottom.result c.lower_ceilings.new.ceilings
lowered c d = record { before = d; bottom = c.held_total-bottom.ensures.0; under = c.if-highest-bottom.false; ceilings = c.lower_ceilings.ensures }

narrowed : (c : After-min-high) → let a = c.args in let b = boxed a.floors.now a.ceilings.now a.rises.now a.numbers in
    Lowered b c.carry.new.floors c.held_total-bottom.result c.lower_ceilings.new.ceilings
    → Narrowed b c.carry.new.floors c.held_total-bottom.result c.lower_ceilings.new.ceilings c.held_total-top.result c.max-low.result c.min-high.result
narrowed c d = record { before = d; top = c.held_total-top.ensures.0; low = c.max-low.ensures; high = c.min-high.ensures }

pub returns-then-carry-n : goal.returns-then-carry-n
returns-then-carry-n c = tight_crossed c.requires c.carry.ensures.value c.carry.ensures.floors_after c.if-carry-n.true

pub returns-then-highest-bottom : goal.returns-then-highest-bottom
returns-then-highest-bottom c =
    tight_over (carried (goal.at.returns-then-highest-bottom c).Else-carry-n) c.held_total-bottom.ensures.0 c.if-highest-bottom.true

pub lower_ceilings-requires : goal.lower_ceilings-requires
lower_ceilings-requires c =
    let h = c.requires in
    (carried-ready (carried (goal.at.lower_ceilings-requires c).Else-carry-n), omega (arith, h.counts), omega (arith, h.highest))

pub returns-then-high-low : goal.returns-then-high-low
returns-then-high-low c =
    let at = goal.at.returns-then-high-low c in
    tight_apart (narrowed at.After-min-high (lowered at.After-lower_ceilings (carried at.Else-carry-n))) c.if-high-low.true

pub raise_floors-requires : goal.raise_floors-requires
raise_floors-requires c =
    let h = c.requires in
    let at = goal.at.raise_floors-requires c in
    (lowered_raisable (lowered at.After-lower_ceilings (carried at.Else-carry-n)), omega (arith, h.counts), omega (arith, c.held_total-top.ensures.1))

pub returns : goal.returns
returns c =
    let at = goal.at.returns c in
    rw c.raise_floors.ensures (tight_found (narrowed at.After-min-high (lowered at.After-lower_ceilings (carried at.Else-carry-n))) c.if-high-low.false)
