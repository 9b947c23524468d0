use mir.Syntax.{w16}
use mir.Val.{to_z, of_z}
use mir.Facts.{to_z-of_z}
use mathlib.Core.Path.{◌≡◌}
use Rattle.base_codes.specs.Code.{on}
use Rattle.theory_lists.specs.Rows.{stored_none, stored_more, stored_all, stored_room}
use borrow.Author.Rules.{rules}
use Rattle.file_printing.proofs.put_days.Goals as goal

pub loop-k-init : goal.loop-k-init
loop-k-init c = stored_none

pub put_day-next-requires : goal.put_day-next-requires
put_day-next-requires c =
    -- the numbers as they are passed on
    let floor : to_z w16 (of_z w16 (on c.args.floors.now c.loop-k.k)) ≡ on c.args.floors.now c.loop-k.k = to_z-of_z {w = w16} (search rules) in
    let ceiling : to_z w16 (of_z w16 (on c.args.ceilings.now c.loop-k.k)) ≡ on c.args.ceilings.now c.loop-k.k = to_z-of_z {w = w16} (search rules) in
    let pre = c.requires in
    rw (floor, ceiling) (stored_room 20 c.loop-k.invariant c.loop-k-test.true pre.1 pre.2)

pub loop-k-preserved : goal.loop-k-preserved
loop-k-preserved c =
    -- the numbers as they are passed on
    let floor : to_z w16 (of_z w16 (on c.args.floors.now c.loop-k.k)) ≡ on c.args.floors.now c.loop-k.k = to_z-of_z {w = w16} (search rules) in
    let ceiling : to_z w16 (of_z w16 (on c.args.ceilings.now c.loop-k.k)) ≡ on c.args.ceilings.now c.loop-k.k = to_z-of_z {w = w16} (search rules) in
    stored_more c.loop-k.invariant c.loop-k-test.true
    (rw (floor, ceiling) at c.put_day-next.ensures.out_after, rw (floor, ceiling) at c.put_day-next.ensures.value)

pub returns : goal.returns
returns c = let all = stored_all c.loop-k.invariant c.loop-k-test.false in record { out_after = all.0; value = all.1 }
