-- `refused` meets its contract outright: the array that it builds is the one of document 01's session of one day.
use Rattle.theory_lists.specs.Written.{written}
use mathlib.Core.Path.{refl}
use Rattle.session.proofs.refused.Goals as goal

pub returns : goal.returns
unfolding written
returns c = refl
