-- `put_range` meets its contract: its parts are stored one after another, by `Left` of Laws, which says what is left to store.
use mathlib.Core.List.{[], ◌∷◌, ◌++◌}
use mir.Facts.{to_z-of_z}
use Rattle.base_text.specs.Numbers.{number}
use Rattle.file_printing.specs.Printing.{range}
use Rattle.file_printing.proofs.Lines.{range_parts}
use Rattle.file_printing.proofs.Laws.{Left, left-all, left-more, left-number, left-none, left-room, last-room}
use Rattle.file_printing.proofs.put_range.Goals as goal
use Rattle.file_printing.proofs.put_range.Goals.{After-put-first, After-put-second, After-put_number-between, After-put_number-end, Start}

one : (c : After-put-first) → (Left c.args.out.now c.args.at (range c.args.low c.args.high)) c.put-first.new.out c.put-first.result ((number c.args.low ++ ((32 ∷ []) ++ (number c.args.high ++ (10 ∷ [])))))
one c = left-more (32 ∷ []) (left-all (range_parts c.args.low c.args.high)) (c.put-first.ensures.out_after, c.put-first.ensures.value)

two : (c : After-put_number-between) → (Left c.args.out.now c.args.at (range c.args.low c.args.high)) c.put_number-between.new.out c.put_number-between.result ((32 ∷ []) ++ (number c.args.high ++ (10 ∷ [])))
two c = left-number (to_z-of_z c.ranges.low) ((left-more (32 ∷ []) (left-all (range_parts c.args.low c.args.high))
    (c.put-first.ensures.out_after, c.put-first.ensures.value))) (c.put_number-between.ensures.out_after, c.put_number-between.ensures.value)

three : (c : After-put-second) → (Left c.args.out.now c.args.at (range c.args.low c.args.high)) c.put-second.new.out c.put-second.result ((number c.args.high ++ (10 ∷ [])))
three c = left-more (32 ∷ []) ((left-number (to_z-of_z c.ranges.low)
    ((left-more (32 ∷ []) (left-all (range_parts c.args.low c.args.high)) (c.put-first.ensures.out_after, c.put-first.ensures.value)))
    (c.put_number-between.ensures.out_after, c.put_number-between.ensures.value))) (c.put-second.ensures.out_after, c.put-second.ensures.value)

four : (c : After-put_number-end) → (Left c.args.out.now c.args.at (range c.args.low c.args.high)) c.put_number-end.new.out c.put_number-end.result (10 ∷ [])
four c = left-number (to_z-of_z c.ranges.high) ((left-more (32 ∷ [])
    ((left-number (to_z-of_z c.ranges.low) ((left-more (32 ∷ []) (left-all (range_parts c.args.low c.args.high))
    (c.put-first.ensures.out_after, c.put-first.ensures.value))) (c.put_number-between.ensures.out_after, c.put_number-between.ensures.value)))
    (c.put-second.ensures.out_after, c.put-second.ensures.value))) (c.put_number-end.ensures.out_after, c.put_number-end.ensures.value)

pub put_number-between-requires : goal.put_number-between-requires
put_number-between-requires c =
    rw (to_z-of_z c.ranges.low) (left-room (number c.args.low) ((32 ∷ []) ++ (number c.args.high ++ (10 ∷ []))) (one (goal.at.put_number-between-requires c).After-put-first) c.requires)

pub put-second-requires : goal.put-second-requires
put-second-requires c = left-room (32 ∷ []) ((number c.args.high ++ (10 ∷ []))) (two (goal.at.put-second-requires c).After-put_number-between) c.requires

pub put_number-end-requires : goal.put_number-end-requires
put_number-end-requires c =
    rw (to_z-of_z c.ranges.high) (left-room (number c.args.high) (10 ∷ []) (three (goal.at.put_number-end-requires c).After-put-second) c.requires)

pub put-requires : goal.put-requires
put-requires c = last-room (four (goal.at.put-requires c).After-put_number-end) c.requires

pub returns : goal.returns
returns c = let whole = left-none (four (goal.at.returns c).After-put_number-end) (c.put.ensures.out_after, c.put.ensures.value) in record { out_after = whole.0; value = whole.1 }
