use lib.ListN.{length-drop}
use lib.Seq.{get_or-drop}
use Rattle.theory_lists.specs.Rows.{copied_none, copied_more, copied_all}
use Rattle.c_files.proofs.put_rest.Goals as goal

pub loop-i-init : goal.loop-i-init
loop-i-init c = copied_none

pub loop-i-preserved : goal.loop-i-preserved
loop-i-preserved c = copied_more 0 c.loop-i.invariant (rw length-drop c.loop-i-test.true) (rw get_or-drop)

pub returns : goal.returns
returns c = copied_all c.loop-i.invariant (rw length-drop c.loop-i-test.false)
