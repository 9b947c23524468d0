use mathlib.Core.Path.{◌∙◌}
use mir.Facts.{to_z-of_z}
use mir.Syntax.{w16}
use Rattle.base_little_endian.proofs.Laws.{i16_length}
use Rattle.theory_lists.specs.Rows.{even_none, even_more}
use borrow.Author.Rules.{sfits_of}
use Rattle.c_lists.proofs.put_each_point.Goals as goal

pub loop-j-init : goal.loop-j-init
loop-j-init g c = λ f h. even_none 2

pub loop-j-preserved : goal.loop-j-preserved
loop-j-preserved g c = λ f h.
    let point = to_z-of_z (sfits_of {w = w16} c.point.type_inv) ∙ h c.loop-j.j c.point.result c.loop-j-test.true c.point.ensures in
    even_more 2 (λ k. i16_length _) (c.loop-j.invariant f h) c.loop-j-test.true (rw point at c.put_i16.ensures)
