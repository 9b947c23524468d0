-- `Tally::note` meets its contract: the text that was stored lies within its list (`front-room`).
use Rattle.std.proofs.Common.{◌≤◌, length, sym, length-take-le, rules}
use Rattle.file_printing.proofs.Lines.{front-room}
use Rattle.program_damaged.proofs.tally.Tally.note.Goals as goal
use Rattle.program_damaged.proofs.tally.Tally.note.Goals.{After-print_ranges-length}

room : (c : After-print_ranges-length) → c.print_ranges-length.result ≤ length c.print_ranges-length.new.out
room c = rw (c.print_ranges-length.ensures.out_after, c.print_ranges-length.ensures.value) (front-room _ _)

pub slice_bounds-text-end : goal.slice_bounds-text-end
slice_bounds-text-end c = room (goal.at.slice_bounds-text-end c).After-print_ranges-length

pub slice_bounds-ending-end : goal.slice_bounds-ending-end
slice_bounds-ending-end c = sym (length-take-le _ _ (room (goal.at.slice_bounds-ending-end c).After-print_ranges-length))
