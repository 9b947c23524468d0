-- `check_value` meets its contract: each return knows whether the cut can have the day.
use mathlib.Core.Path.{◌≡◌}
use Rattle.std.specs.Prelude.{ok_or}
use Rattle.session_cutting.specs.Stages.{checked_value}
use Rattle.session_cutting.proofs.Stages.{value_taken}
use Rattle.session_cutting.proofs.check_value.Goals as goal

pub returns-then-not-placed : goal.returns-then-not-placed
unfolding checked_value
returns-then-not-placed c = rw c.if-not-placed.true

pub returns : goal.returns
returns c =
    let e : c.ok_or.result ≡ ok_or c.args.value c.args.outside = c.ok_or.ensures.value in
    rw (e, c.if-not-placed.false) (value_taken _ c.args.value c.args.outside)
