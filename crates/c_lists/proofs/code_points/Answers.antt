use lib.IntN.{pos}
use mir.Syntax.{w16}
use Rattle.theory_lists.specs.ListOf.{length-list_of, get_list_of}
use Rattle.base_codes.proofs.Loops.{coding_none, coding_more, coding_seen}
use Rattle.c_lists.specs.Lists.{point_at, points_in}
use borrow.Author.Rules.{sfits_of}
use Rattle.c_lists.proofs.code_points.Goals as goal

pub loop-j-init : goal.loop-j-init
loop-j-init c = coding_none

pub loop-j-preserved : goal.loop-j-preserved
loop-j-preserved c =
    coding_more c.loop-j.invariant _ c.loop-j-test.true (sfits_of {w = w16} c.i16_at.type_inv) c.i16_at.ensures c.code_cell-cell.ensures c.unwrap_or.ensures c.is_none-outside.ensures

pub returns : goal.returns
unfolding points_in
returns c =
    let b = c.args.bytes.now in
    let n = c.args.n in let whole = coding_seen c.ranges.low c.ranges.high (point_at b) n (points_in b n) c.args.out.now c.loop-j.invariant
    (length-list_of (point_at b) n) (get_list_of (point_at b) (pos 0) n) c.loop-j-test.false in
    record { value = whole.0; out_after = whole.1.0; n_value = whole.1.1 }
