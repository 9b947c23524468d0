-- `put_rest` meets its contract: the first i bytes from `start` on stand from `place` on (`Copied`), and a turn copies the next one (`copied_more`).
use lib.ListN.{drop}
use Rattle.theory_lists.specs.Rows.{Copied}
use Rattle.c_files.proofs.put_rest.Given as goal

abbrev pub invariant-loop-i : goal.invariant-loop-i
invariant-loop-i l = Copied (drop l.start l.from) l.place l.i l.initial.out l.out
