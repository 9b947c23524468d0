-- `code_ranges` meets its contract: the floors and the ceilings of the first j days are coded, and the flags tell of them (`CodingRanges`).
use Rattle.c_lists.proofs.Ranges.{CodingRanges}
use Rattle.c_lists.proofs.code_ranges.Given as goal

abbrev pub invariant-loop-j : goal.invariant-loop-j
invariant-loop-j l = CodingRanges l.floors l.ceilings l.n l.initial.low l.initial.high l.j l.low l.high l.outside l.crossed
