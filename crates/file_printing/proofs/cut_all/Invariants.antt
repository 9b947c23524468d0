-- `cut_all` meets its contract: the first j cuts are applied (`Applied` of Laws).
use lib.ListN.{get_or}
use Rattle.session_cuts.specs.Sheet.{blank}
use Rattle.file_printing.specs.Stages.{unrefused}
use Rattle.file_printing.proofs.Laws.{Applied}
use Rattle.file_printing.proofs.cut_all.Given as goal

abbrev pub invariant-loop-j : goal.invariant-loop-j
invariant-loop-j l = Applied (unrefused l.initial.after) (λ i. (get_or l.entries i blank).cut) l.count l.j (unrefused l.after)
