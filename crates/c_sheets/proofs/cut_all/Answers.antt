use Rattle.c_sheets.proofs.Laws.{making_none, making_holds, making_room, making_more, making_all}
use Rattle.c_sheets.proofs.cut_all.Goals as goal

pub cut_listed-at-requires : goal.cut_listed-at-requires
cut_listed-at-requires c =
    let i = c.loop-j.invariant in
    let p = c.requires in
    (making_holds i p.0, making_room i p.1 c.loop-j-test.true)

pub loop-j-preserved : goal.loop-j-preserved
loop-j-preserved c =
    making_more c.loop-j.invariant c.loop-j-test.true (c.cut_listed-at.ensures.stepped, c.cut_listed-at.ensures.answers_after)

pub returns : goal.returns
returns c = making_all c.loop-j.invariant c.loop-j-test.false

pub loop-j-init : goal.loop-j-init
loop-j-init c = making_none
