-- `put_totals` meets its contract: each bound is decoded and stored, the upper one after the lower (`laid_last`).
use mir.Facts.{to_z-of_z}
use mir.Syntax.{w32}
use Rattle.limits.specs.Limits.{lowest_total}
use Rattle.base_codes.specs.Code.{decoded}
use Rattle.base_little_endian.specs.Fields.{i32_bytes}
use Rattle.base_little_endian.proofs.Laws.{i32_length}
use Rattle.c_layout.specs.Layout.{total_bytes}
use Rattle.c_storing.proofs.Laws.{laid, laid_last}
use borrow.Author.Rules.{sfits_of}
use Rattle.c_storing.proofs.put_totals.Goals as goal

pub returns : goal.returns
unfolding total_bytes
returns c =
    let a = c.args in
    let lower = laid a.out.now a.place (i32_bytes (decoded lowest_total a.least)) (rw (to_z-of_z (sfits_of {w = w32} c.decode.type_inv), c.decode.ensures) at c.put_i32.ensures) (i32_length _) in
    laid_last lower (i32_bytes (decoded lowest_total a.most)) (rw (to_z-of_z (sfits_of {w = w32} c.decode-2.type_inv), c.decode-2.ensures) at c.put_i32-2.ensures)
