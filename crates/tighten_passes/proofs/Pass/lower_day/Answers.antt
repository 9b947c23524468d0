-- `lower_day` meets its contract: what is handed on is the window with day i in front.
use Rattle.tighten_passes.proofs.Laws.{day-fits}
use Rattle.tighten_passes.proofs.Pass.lower_day.Goals as goal

pub returns-then-fits : goal.returns-then-fits
returns-then-fits g c =
    rw c.entered-w.ensures (day-fits c.requires.sight.carried c.requires.entering (rw c.entered-w.ensures at (c.fits.ensures c.if-fits.true)))
