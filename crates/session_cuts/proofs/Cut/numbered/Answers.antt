-- `Cut::numbered` meets its contract: each arm knows the kind, or that it is none of the four.
use borrow.Author.Rules.{rules}
use Rattle.session_cuts.specs.Numbered.{numbered}
use Rattle.session_cuts.proofs.Cut.numbered.Goals as goal

pub returns-in-0 : goal.returns-in-0
unfolding numbered
returns-in-0 c = search rules

pub returns-in-1 : goal.returns-in-1
unfolding numbered
returns-in-1 c = search rules

pub returns-in-2 : goal.returns-in-2
unfolding numbered
returns-in-2 c = search rules

pub returns-in-3 : goal.returns-in-3
unfolding numbered
returns-in-3 c = search rules

pub returns-in_default : goal.returns-in_default
unfolding numbered
returns-in_default c = search rules
