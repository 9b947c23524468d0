-- `main` is safe: the text that was stored lies within its list (`front-room`).
use Rattle.std.proofs.Common.{◌≤◌, length, sym, length-take-le}
use Rattle.file_printing.proofs.Lines.{front-room}
use Rattle.program_ranges.proofs.main.Goals as goal
use Rattle.program_ranges.proofs.main.Goals.{After-print_ranges-end}

room : (c : After-print_ranges-end) → c.print_ranges-end.result ≤ length c.print_ranges-end.new.out
room c = rw (c.print_ranges-end.ensures.value, c.print_ranges-end.ensures.out_after) (front-room _ _)

pub slice_bounds-text-end : goal.slice_bounds-text-end
slice_bounds-text-end c = room (goal.at.slice_bounds-text-end c).After-print_ranges-end

pub slice_bounds-write_all-end : goal.slice_bounds-write_all-end
slice_bounds-write_all-end c = sym (length-take-le _ _ (room (goal.at.slice_bounds-write_all-end c).After-print_ranges-end))
