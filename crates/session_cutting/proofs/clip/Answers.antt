-- `clip` meets its contract: each arm knows the kind, and what `Clips` asks of it.
use mathlib.Core.Path.{refl}
use borrow.Author.Rules.{rules}
use Rattle.session_cuts.specs.declared.Cut.TheVariants.{DayFloor, DayCeiling}
use Rattle.session_cutting.specs.Cutting.{clipped}
use Rattle.session_cutting.specs.Stages.{Clips}
use Rattle.session_cutting.proofs.clip.Goals as goal
use Rattle.session_cutting.proofs.clip.Goals.{In-DayCeiling, In-DayFloor}

-- what `Clips` asks of the kind
floor-clips : (c : In-DayFloor) → Clips (DayFloor c.in-DayFloor.day c.in-DayFloor.field-1) c.args.value
floor-clips c = rw c.in-DayFloor.is at c.requires

ceiling-clips : (c : In-DayCeiling) → Clips (DayCeiling c.in-DayCeiling.day c.in-DayCeiling.field-1) c.args.value
ceiling-clips c = rw c.in-DayCeiling.is at c.requires

pub offset_bounds-floors-day : goal.offset_bounds-floors-day
offset_bounds-floors-day c = let p = floor-clips (goal.at.offset_bounds-floors-day c).In-DayFloor in search rules

pub bounds-floors-day : goal.bounds-floors-day
bounds-floors-day c = let p = floor-clips (goal.at.bounds-floors-day c).In-DayFloor in search rules

pub overflow_cast-value : goal.overflow_cast-value
overflow_cast-value c = let p = floor-clips (goal.at.overflow_cast-value c).In-DayFloor in search rules

pub offset_bounds-floors-day-in-DayFloor : goal.offset_bounds-floors-day-in-DayFloor
offset_bounds-floors-day-in-DayFloor c = let p = floor-clips (goal.at.offset_bounds-floors-day-in-DayFloor c).In-DayFloor in search rules

pub bounds-floors-day-in-DayFloor : goal.bounds-floors-day-in-DayFloor
bounds-floors-day-in-DayFloor c = let p = floor-clips (goal.at.bounds-floors-day-in-DayFloor c).In-DayFloor in search rules

pub offset_bounds-ceilings-day : goal.offset_bounds-ceilings-day
offset_bounds-ceilings-day c = let p = ceiling-clips (goal.at.offset_bounds-ceilings-day c).In-DayCeiling in search rules

pub bounds-ceilings-day : goal.bounds-ceilings-day
bounds-ceilings-day c = let p = ceiling-clips (goal.at.bounds-ceilings-day c).In-DayCeiling in search rules

pub overflow_cast-value-in-DayCeiling : goal.overflow_cast-value-in-DayCeiling
overflow_cast-value-in-DayCeiling c = let p = ceiling-clips (goal.at.overflow_cast-value-in-DayCeiling c).In-DayCeiling in search rules

pub offset_bounds-ceilings-day-in-DayCeiling : goal.offset_bounds-ceilings-day-in-DayCeiling
offset_bounds-ceilings-day-in-DayCeiling c = let p = ceiling-clips (goal.at.offset_bounds-ceilings-day-in-DayCeiling c).In-DayCeiling in search rules

pub bounds-ceilings-day-in-DayCeiling : goal.bounds-ceilings-day-in-DayCeiling
bounds-ceilings-day-in-DayCeiling c = let p = ceiling-clips (goal.at.bounds-ceilings-day-in-DayCeiling c).In-DayCeiling in search rules

pub returns-in-DayFloor : goal.returns-in-DayFloor
unfolding clipped
returns-in-DayFloor c = let p = floor-clips (goal.at.returns-in-DayFloor c).In-DayFloor in rw (c.in-DayFloor.is, c.max.ensures, p.1)

pub returns-in-DayCeiling : goal.returns-in-DayCeiling
unfolding clipped
returns-in-DayCeiling c = let p = ceiling-clips (goal.at.returns-in-DayCeiling c).In-DayCeiling in rw (c.in-DayCeiling.is, c.min.ensures, p.1)

pub returns-in-TotalFloor : goal.returns-in-TotalFloor
unfolding clipped
returns-in-TotalFloor c = let p = rw c.in-TotalFloor.is at c.requires in rw (c.in-TotalFloor.is, c.max-in-TotalFloor.ensures, p) refl

pub returns-in-TotalCeiling : goal.returns-in-TotalCeiling
unfolding clipped
returns-in-TotalCeiling c = let p = rw c.in-TotalCeiling.is at c.requires in rw (c.in-TotalCeiling.is, c.min-in-TotalCeiling.ensures, p)
