-- `copy_levels` meets its contract: j levels are stored from `place` on (`Stored`), and the next one is read before that place, where nothing was
-- stored (`field_before`).
use Prim.Native.Nat.{◌+◌, ◌*◌, min}
use Rattle.base_little_endian.specs.Fields.{u16_at, u16_bytes}
use Rattle.theory_lists.specs.Rows.{Stored}
use Rattle.c_storing.proofs.copy_levels.Given as goal

abbrev pub invariant-loop-j : goal.invariant-loop-j
invariant-loop-j l = Stored (λ k. u16_bytes (min (u16_at l.initial.bytes (l.from + k * 2)) 5000)) l.n l.place l.initial.bytes l.j (l.place + l.j * 2) l.bytes
