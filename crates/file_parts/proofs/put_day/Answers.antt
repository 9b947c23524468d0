-- `put_day` meets its contract: three fields stored one after another (`stored_after`).
use mathlib.Core.List.{◌++◌}
use mathlib.Core.Path.{refl}
use mir.Facts.{to_z-of_z}
use Rattle.base_little_endian.specs.Fields.{u16_bytes, i16_bytes}
use Rattle.file_format.specs.Format.{day_bytes}
use Rattle.theory_lists.specs.Rows.{stored_after}
use Rattle.file_parts.proofs.put_day.Goals as goal

pub returns : goal.returns
unfolding day_bytes i16_bytes u16_bytes
returns c =
    let l = c.args.out.now in
    let floor = i16_bytes c.args.floor in
    let ceiling = i16_bytes c.args.ceiling in
    stored_after l c.args.at 4 (floor ++ ceiling) (i16_bytes c.args.rise) refl
    (stored_after l c.args.at 2 floor ceiling refl (rw (to_z-of_z c.ranges.floor) at c.put_i16.ensures) (rw (to_z-of_z c.ranges.ceiling) at c.put_i16-2.ensures))
    (rw (to_z-of_z c.ranges.rise) at c.put_i16-3.ensures)
