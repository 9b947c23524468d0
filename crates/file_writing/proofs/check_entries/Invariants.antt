-- `check_entries` meets its contract: none of the first j entries is refused; the laws are those of First.
use lib.ListN.{get_or}
use Rattle.theory_lists.specs.First.{nonzero, Nowhere}
use Rattle.session_cuts.specs.Sheet.{blank}
use Rattle.session_cutting.specs.Cutting.{malformed}
use Rattle.file_writing.proofs.check_entries.Given as goal

abbrev pub invariant-loop-j : goal.invariant-loop-j
invariant-loop-j l = Nowhere (nonzero (λ k. malformed l.days (get_or l.entries k blank).cut)) l.count l.j
