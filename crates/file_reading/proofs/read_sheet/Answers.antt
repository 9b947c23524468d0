use Rattle.theory_lists.specs.Filled.{filled_none, filled_more, filled-all}
use Rattle.file_reading.specs.Reading.{sheet_from}
use Rattle.file_reading.proofs.read_sheet.Goals as goal

pub loop-j-init : goal.loop-j-init
loop-j-init c = filled_none

pub loop-j-preserved : goal.loop-j-preserved
loop-j-preserved c = filled_more c.loop-j.invariant c.loop-j-test.true c.entry_at.ensures

pub returns : goal.returns
unfolding sheet_from
returns c = rw (filled-all c.loop-j.invariant c.loop-j-test.false)
