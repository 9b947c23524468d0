-- `put_cells` meets its contract: j cells of 2 bytes each are stored from `place` on (`Stored`), and a turn stores the next one (`even_more`).
use Prim.Native.Nat.{◌+◌, ◌*◌}
use Rattle.base_little_endian.specs.Fields.{u16_bytes}
use Rattle.theory_lists.specs.Sum.{at}
use Rattle.theory_lists.specs.Rows.{Stored}
use Rattle.c_lists.proofs.put_cells.Given as goal

abbrev pub invariant-loop-j : goal.invariant-loop-j
invariant-loop-j l = Stored (λ k. u16_bytes (at l.cells k)) l.n l.place l.initial.out l.j (l.place + l.j * 2) l.out
