use mathlib.Core.Path.{refl}
use Prim.Native.Nat.{◌<◌}
use lib.ListN.{length}
use borrow.Author.Rules.{rules}
use Rattle.std.proofs.lemmas.List.{map-set}
use Rattle.session_sheets.proofs.Laws.{asked-same, making_none, making_more, making_all}
use Rattle.session_sheets.proofs.cut_all.Goals as goal
use Rattle.session_sheets.proofs.cut_all.Goals.{In-loop-j}

inside : (c : In-loop-j) → c.loop-j.j < length c.args.asked
inside c = search rules

pub loop-j-init : goal.loop-j-init
loop-j-init c = making_none refl (rw c.start-after.ensures c.requires.0)

pub cut_once-after-requires : goal.cut_once-after-requires
cut_once-after-requires c = c.loop-j.invariant.bounds

pub loop-j-preserved : goal.loop-j-preserved
loop-j-preserved c =
    rw map-set (making_more c.loop-j.invariant c.loop-j-test.true (asked-same c.args.asked _ _ (inside (goal.at.loop-j-preserved c).In-loop-j)) c.cut_once-after.ensures c.answer_for.ensures)

pub returns : goal.returns
returns c =
    rw (← c.start-after.ensures) (making_all c.loop-j.invariant c.loop-j-test.false refl)
