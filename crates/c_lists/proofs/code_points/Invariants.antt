-- `code_points` meets its contract: the first j points are coded, and the flag tells of them (`Coding`).
use Rattle.base_codes.proofs.Loops.{Coding}
use Rattle.c_lists.specs.Lists.{point_at}
use Rattle.c_lists.proofs.code_points.Given as goal

abbrev pub invariant-loop-j : goal.invariant-loop-j
invariant-loop-j l = Coding l.low l.high (point_at l.bytes) l.n l.initial.out l.j l.out l.outside
