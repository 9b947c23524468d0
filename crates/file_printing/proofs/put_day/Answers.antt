-- `put_day` meets its contract: its parts are stored one after another, by `Left` of Laws; the numbers are widened as they are passed on.
use mathlib.Core.Path.{◌≡◌, ap}
use mathlib.Core.List.{[], ◌∷◌, ◌++◌}
use lib.IntN.{ℤ}
use lib.ListN.{length}
use mir.Syntax.{w16, w32}
use mir.Val.{SFits, to_z, of_z}
use mir.Facts.{sfits_widen}
use Rattle.base_codes.proofs.Casts.{recast, recast_fits}
use Rattle.base_text.specs.Numbers.{decimal}
use Rattle.file_printing.specs.Printing.{range, day_line}
use Rattle.file_printing.proofs.Lines.{day_parts}
use Rattle.file_printing.proofs.Laws.{Left, left-all, left-more, left-none, left-room, last-room}
use native.Mathlib.Omega.{arith}
use Rattle.file_printing.proofs.put_day.Goals as goal
use Rattle.file_printing.proofs.put_day.Goals.{After-put-number, After-put_decimal-after, Start}

parts : (c : Start) → day_line c.args.day c.args.low c.args.high ≡ (100 ∷ 97 ∷ 121 ∷ 32 ∷ []) ++ (decimal c.args.day ++ (range c.args.low c.args.high))
parts c = day_parts c.args.day c.args.low c.args.high

one : (c : After-put-number) → (Left c.args.out.now c.args.at (day_line c.args.day c.args.low c.args.high)) c.put-number.new.out c.put-number.result (decimal c.args.day ++ (range c.args.low c.args.high))
one c = left-more (100 ∷ 97 ∷ 121 ∷ 32 ∷ []) (left-all (day_parts c.args.day c.args.low c.args.high)) (c.put-number.ensures.out_after, c.put-number.ensures.value)

two : (c : After-put_decimal-after) → (Left c.args.out.now c.args.at (day_line c.args.day c.args.low c.args.high)) c.put_decimal-after.new.out c.put_decimal-after.result (range c.args.low c.args.high)
two c = left-more (decimal c.args.day) ((left-more (100 ∷ 97 ∷ 121 ∷ 32 ∷ []) (left-all (day_parts c.args.day c.args.low c.args.high))
    (c.put-number.ensures.out_after, c.put-number.ensures.value))) (c.put_decimal-after.ensures.out_after, c.put_decimal-after.ensures.value)

wide : {z : ℤ} → SFits w16 z → SFits w32 z
wide = sfits_widen tt

low : (c : Start) → to_z w32 (of_z w32 (to_z w16 (of_z w16 c.args.low))) ≡ c.args.low
low c = recast w16 w32 c.ranges.low (wide c.ranges.low)

high : (c : Start) → to_z w32 (of_z w32 (to_z w16 (of_z w16 c.args.high))) ≡ c.args.high
high c = recast w16 w32 c.ranges.high (wide c.ranges.high)

pub put-number-requires : goal.put-number-requires
put-number-requires c = omega (arith, ap length (parts (goal.at.put-number-requires c).Start), c.requires)

pub put_decimal-after-requires : goal.put_decimal-after-requires
put_decimal-after-requires c = left-room (decimal c.args.day) (range c.args.low c.args.high) (one (goal.at.put_decimal-after-requires c).After-put-number) c.requires

pub overflow_cast-low : goal.overflow_cast-low
overflow_cast-low c = let f = c.ranges in recast_fits w16 w32 f.low (wide f.low)

pub overflow_cast-high : goal.overflow_cast-high
overflow_cast-high c = let f = c.ranges in recast_fits w16 w32 f.high (wide f.high)

pub put_range-requires : goal.put_range-requires
put_range-requires c = rw (low (goal.at.put_range-requires c).Start, high (goal.at.put_range-requires c).Start) (last-room (two (goal.at.put_range-requires c).After-put_decimal-after) c.requires)

pub returns : goal.returns
returns c =
    let l = low (goal.at.returns c).Start in
    let h = high (goal.at.returns c).Start in
    let all =
    left-none (two (goal.at.returns c).After-put_decimal-after) (rw (l, h) at c.put_range.ensures.out_after, rw (l, h) at c.put_range.ensures.value) in
    record { out_after = all.0; value = all.1 }
