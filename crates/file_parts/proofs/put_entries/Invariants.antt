-- `put_entries` meets its contract: the bytes of j entries are stored (`Stored`), eight to an entry.
use Prim.Native.Nat.{◌+◌, ◌*◌}
use lib.ListN.{get_or}
use Rattle.session_cuts.specs.Sheet.{blank}
use Rattle.file_format.specs.Format.{cut_bytes}
use Rattle.theory_lists.specs.Rows.{Stored}
use Rattle.file_parts.proofs.put_entries.Given as goal

abbrev pub invariant-loop-j : goal.invariant-loop-j
invariant-loop-j l = Stored (λ k. cut_bytes (get_or l.entries k blank).cut) l.count l.from l.initial.out l.j (l.from + l.j * 8) l.out
