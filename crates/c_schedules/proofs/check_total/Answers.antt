-- `check_total` meets its contract: what was read is the session's.
use mir.Facts.{to_z-of_z}
use native.Mathlib.Omega.{arith}
use Rattle.c_layout.specs.Layout.{decoding}
use Rattle.c_layout.proofs.Inverse.{decoding_in_bounds}
use Rattle.c_schedules.proofs.Laws.{total-read}
use Rattle.c_schedules.proofs.check_total.Goals as goal

pub check_total-requires : goal.check_total-requires
check_total-requires c = omega (arith, c.total_of-total.ensures.1, (decoding_in_bounds c.args.session.now).present.highest)

pub returns : goal.returns
returns c =
    total-read (decoding c.args.session.now) _ (c.total_of-total.ensures.0, c.total_of-total.ensures.1, c.is_spent.ensures) (rw (to_z-of_z c.ranges.value) at c.check_total.ensures)
