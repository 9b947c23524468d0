-- `inspect` meets its contract: a law of Stages for each return, by the list's length and whether the session is spent.
use mathlib.Core.Path.{◌∙◌}
use Rattle.schedule_inspection.proofs.Stages.{wrong_length, spent-refused, unspent-judged}
use Rattle.schedule_inspection.proofs.inspect.Goals as goal

pub returns-then-list-n : goal.returns-then-list-n
returns-then-list-n c = wrong_length _ _ c.if-list-n.true

pub returns-then-session : goal.returns-then-session
returns-then-session c = spent-refused _ _ c.if-list-n.false c.if-session.true

pub returns : goal.returns
returns c = c.judge.ensures ∙ unspent-judged _ _ c.if-list-n.false c.if-session.false
