-- `cut_all` meets its contract: the first j cuts are made and answered (`Making` of Laws).
use lib.ListN.{get_or}
use mathlib.Core.List.{map}
use Rattle.session_cutting.specs.Cutting.{after_as}
use Rattle.session_sheets.specs.Sheets.{not_asked, answered_as}
use Rattle.session_sheets.proofs.Laws.{Making}
use Rattle.session_sheets.proofs.cut_all.Given as goal

abbrev pub invariant-loop-j : goal.invariant-loop-j
invariant-loop-j l =
    Making l.initial.after.session (λ i. (get_or l.asked i not_asked).cut) l.count l.j (map answered_as l.initial.entries) (after_as l.after) (map answered_as l.entries)
