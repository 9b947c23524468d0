use mir.Syntax.{w16}
use Rattle.c_lists.proofs.Ranges.{ranges-none, ranges_more, ranges-all}
use borrow.Author.Rules.{sfits_of}
use Rattle.c_lists.proofs.code_ranges.Goals as goal

pub loop-j-init : goal.loop-j-init
loop-j-init c = ranges-none

pub loop-j-preserved : goal.loop-j-preserved
loop-j-preserved c =
    ranges_more c.loop-j.invariant c.loop-j-test.true
    (record { fits = sfits_of {w = w16} c.i16_at.type_inv; point = c.i16_at.ensures; answer = c.code_cell-floor.ensures; value = c.unwrap_or-floor.ensures; told = c.is_none.ensures })
    (record { fits = sfits_of {w = w16} c.i16_at-in-loop-j.type_inv; point = c.i16_at-in-loop-j.ensures; answer = c.code_cell-ceiling.ensures; value = c.unwrap_or-ceiling.ensures; told = c.is_none-in-loop-j.ensures })

pub returns : goal.returns
returns c = let whole = ranges-all c.loop-j.invariant c.loop-j-test.false in record { outside_value = whole.0; crossed_value = whole.1.0; low_after = whole.1.1.0; high_after = whole.1.1.1 }
