use mir.Facts.{to_z-of_z}
use mir.Syntax.{w16}
use Rattle.base_codes.specs.Code.{on}
use Rattle.file_format.proofs.Parts.{day-length}
use Rattle.theory_lists.specs.Rows.{stored_all, even_none, even_more}
use borrow.Author.Rules.{rules, sfits_of}
use Rattle.file_parts.proofs.put_days.Goals as goal

pub loop-k-init : goal.loop-k-init
loop-k-init c = even_none 6

pub loop-k-preserved : goal.loop-k-preserved
loop-k-preserved c =
    let s = c.args in
    let k = c.loop-k.k in
    let floor = to_z-of_z {w = w16} {z = on s.floors.now k} (search rules) in
    let ceiling = to_z-of_z {w = w16} {z = on s.ceilings.now k} (search rules) in
    let rise = to_z-of_z (sfits_of {w = w16} {z = c.rise_on.result} c.rise_on.type_inv) in
    even_more 6 (λ j. day-length _ _ _) c.loop-k.invariant c.loop-k-test.true (rw (c.day_offset.ensures, floor, ceiling, rise, c.rise_on.ensures) at c.put_day.ensures)

pub returns : goal.returns
returns c = (stored_all c.loop-k.invariant c.loop-k-test.false).0
