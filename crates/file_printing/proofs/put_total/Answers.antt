-- `put_total` meets its contract: its parts are stored one after another, by `Left` of Laws.
use mathlib.Core.Path.{ap}
use mathlib.Core.List.{[], ◌∷◌}
use lib.ListN.{length}
use mir.Facts.{to_z-of_z}
use Rattle.file_printing.specs.Printing.{range, total_line}
use Rattle.file_printing.proofs.Lines.{total_parts}
use Rattle.file_printing.proofs.Laws.{Left, left-all, left-more, left-none, last-room}
use native.Mathlib.Omega.{arith}
use Rattle.file_printing.proofs.put_total.Goals as goal
use Rattle.file_printing.proofs.put_total.Goals.{After-put-at}

-- what is left to store after the first call
one : (c : After-put-at) → let a = c.args in Left a.out.now 0 (total_line a.low a.high) c.put-at.new.out c.put-at.result (range a.low a.high)
one c =
    let a = c.args in
    left-more (116 ∷ 111 ∷ 116 ∷ 97 ∷ 108 ∷ []) (left-all (total_parts a.low a.high)) (c.put-at.ensures.out_after, c.put-at.ensures.value)

pub put-at-requires : goal.put-at-requires
put-at-requires c = omega (arith, ap length (total_parts c.args.low c.args.high), c.requires)

pub put_range-requires : goal.put_range-requires
put_range-requires c =
    rw (to_z-of_z c.ranges.low, to_z-of_z c.ranges.high) (last-room (one (goal.at.put_range-requires c).After-put-at) (omega (arith, c.requires)))

pub returns : goal.returns
returns c =
    let f = c.ranges in
    let e =
    left-none (one (goal.at.returns c).After-put-at)
    (rw (to_z-of_z f.low, to_z-of_z f.high) at c.put_range.ensures.out_after, rw (to_z-of_z f.low, to_z-of_z f.high) at c.put_range.ensures.value) in
    record { out_after = e.0; value = omega (arith, e.1) }
