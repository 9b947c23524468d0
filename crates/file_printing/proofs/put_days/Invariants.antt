-- `put_days` meets its contract: the lines of k days are stored (`Stored`).
use Rattle.base_codes.specs.Code.{on}
use Rattle.file_printing.specs.Printing.{day_line}
use Rattle.theory_lists.specs.Rows.{Stored}
use Rattle.file_printing.proofs.put_days.Given as goal

abbrev pub invariant-loop-k : goal.invariant-loop-k
invariant-loop-k l = Stored (λ j. day_line j (on l.floors j) (on l.ceilings j)) l.days l.at l.initial.out l.k l.next l.out
