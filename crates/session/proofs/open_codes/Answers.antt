-- `open_codes` meets its contract: the session of what `open_ranges` gave, by its refusal (`session-refused`, `session-fresh`).
use mathlib.Core.Path.{◌∙◌}
use Rattle.tighten_filtering.specs.Boxed.{boxed}
use Rattle.session.proofs.Stages.{session-refused, session-fresh}
use Rattle.session.proofs.open_codes.Goals as goal

pub returns-in-Err : goal.returns-in-Err
returns-in-Err c = let a = c.args in c.refused.ensures ∙ session-refused (boxed a.floors a.ceilings a.rises a.numbers) _ _ c.open_ranges.ensures c.in-Err.is

pub returns : goal.returns
returns c = let a = c.args in session-fresh (boxed a.floors a.ceilings a.rises a.numbers) _ _ c.open_ranges.ensures c.in-Ok.is
