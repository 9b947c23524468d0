use Prim.Native.Nat.{◌+◌, ◌*◌, min}
use Rattle.base_little_endian.specs.Fields.{u16_at, u16_bytes}
use Rattle.base_little_endian.proofs.Laws.{u16-length}
use Rattle.theory_lists.specs.Rows.{rows, even_none, even_more}
use Rattle.c_storing.proofs.Laws.{field_before}
use native.Mathlib.Omega.{arith}
use Rattle.c_storing.proofs.copy_levels.Goals as goal

pub loop-j-init : goal.loop-j-init
loop-j-init c = even_none 2

pub loop-j-preserved : goal.loop-j-preserved
loop-j-preserved c =
    let a = c.args in
    let place = a.from + c.loop-j.j * 2 in
    let stored = rows (λ k. u16_bytes (min (u16_at a.bytes.now (a.from + k * 2)) 5000)) c.loop-j.j in
    let left = field_before stored a.bytes.now a.place place (omega (arith, c.loop-j-test.true, c.requires.1)) in
    let held = rw (c.loop-j.invariant.made, left) at c.level-held.ensures in
    even_more 2 (λ k. u16-length _) c.loop-j.invariant c.loop-j-test.true (rw held at c.put_u16.ensures)
