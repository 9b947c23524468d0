-- `put_fields` meets its contract: three fields stored one after another (`stored_after`).
use mathlib.Core.List.{◌++◌}
use mathlib.Core.Path.{refl}
use mir.Facts.{to_z-of_z}
use Rattle.base_little_endian.specs.Fields.{u16_bytes, i32_bytes}
use Rattle.theory_lists.specs.Rows.{stored_after}
use Rattle.file_parts.proofs.put_fields.Goals as goal

pub returns : goal.returns
unfolding u16_bytes
returns c =
    let l = c.args.out.now in
    let kind = u16_bytes c.args.kind in
    let day = u16_bytes c.args.day in
    stored_after l c.args.at 4 (kind ++ day) (i32_bytes c.args.value) refl (stored_after l c.args.at 2 kind day refl c.put_u16.ensures c.put_u16-2.ensures)
    (rw (to_z-of_z c.ranges.value) at c.put_i32.ensures)
