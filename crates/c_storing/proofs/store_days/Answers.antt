use Rattle.c_storing.proofs.Days.{ranged-none, ranged-more}
use Rattle.c_storing.proofs.store_days.Goals as goal

pub loop-j-init : goal.loop-j-init
loop-j-init c = ranged-none

pub loop-j-preserved : goal.loop-j-preserved
loop-j-preserved c =
    ranged-more
    (record {
      head = c.loop-j.invariant;
      more = c.loop-j-test.true;
      most = c.requires.1;
      put = cc;
      lost = cc;
    })
