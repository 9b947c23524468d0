-- `code` meets its contract: a law of Casts for each test that finds the number outside, and for the difference of one that none does.
use Rattle.base_codes.proofs.Casts.{Words, Tested, below, above, sub-fits, cast_fits, taken}
use Rattle.base_codes.proofs.code.Goals as goal
use Rattle.base_codes.proofs.code.Goals.{Else-high-z, Start, then-z-low-via-then-z-low, then-z-low-via-else-z-low+then-high-z}

words : (c : Start) → Words c.args.low c.args.high c.args.z
words c = let f = c.ranges in record { low_fits = f.low; high_fits = f.high; z_fits = f.z }

tested : (c : Else-high-z) → let a = c.args in Tested a.low a.high a.z
tested c =
    record { words = words c.before.before; most = c.requires; not-below = c.if-z-low.false; not-above = c.if-high-z.false }

pub returns-then-z-low : goal.returns-then-z-low
returns-then-z-low c =
    let w = words (goal.at.returns-then-z-low c).Start in
    elim c.then-z-low.branch [ then-z-low-via-then-z-low v ↦ below w v.if-z-low.true | then-z-low-via-else-z-low+then-high-z v ↦ above w v.if-high-z.true ]

pub overflow_sub-result : goal.overflow_sub-result
overflow_sub-result c = sub-fits (tested (goal.at.overflow_sub-result c).Else-high-z)

pub overflow_cast-result : goal.overflow_cast-result
overflow_cast-result c = cast_fits (tested (goal.at.overflow_cast-result c).Else-high-z)

pub returns : goal.returns
returns c = taken (tested (goal.at.returns c).Else-high-z)
