-- `code_all` meets its contract: the first i numbers are coded, and the flag tells of them (`Coding` of Loops).
use lib.ListN.{length}
use Rattle.base_codes.specs.Code.{on}
use Rattle.base_codes.proofs.Loops.{Coding}
use Rattle.base_codes.proofs.code_all.Given as goal

abbrev pub invariant-loop-i : goal.invariant-loop-i
invariant-loop-i l = Coding l.low l.high (on l.xs) (length l.xs) l.initial.out l.i l.out l.outside
