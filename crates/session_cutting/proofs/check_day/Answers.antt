-- `check_day` meets its contract: `check_value`'s answer for the point's code, by the law of values that are read back from their bits.
use Rattle.limits.specs.Limits.{lowest_point, highest_point}
use Rattle.session_cutting.proofs.Stages.{value_checked}
use Rattle.session_cutting.proofs.check_day.Goals as goal

pub returns : goal.returns
returns c = value_checked lowest_point highest_point c.args.placed 7 3 c.ranges.value c.code-level.ensures c.check_value.ensures
