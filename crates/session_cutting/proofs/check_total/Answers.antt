-- `check_total` meets its contract: `check_value`'s answer for the total's code, by the law of values that are read back from their bits.
use Rattle.limits.specs.Limits.{lowest_total, highest_total}
use Rattle.session_cutting.proofs.Stages.{value_checked}
use Rattle.session_cutting.proofs.check_total.Goals as goal

pub returns : goal.returns
returns c = value_checked lowest_total highest_total c.args.placed 12 5 c.ranges.value c.code-total.ensures c.check_value.ensures
