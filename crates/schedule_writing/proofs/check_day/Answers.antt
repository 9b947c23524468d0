-- `check_day` meets its contract: the value's code tells what the value does (`check-coded`).
use mathlib.Core.Path.{◌∙◌}
use Rattle.limits.specs.Limits.{lowest_point, highest_point}
use Rattle.base_codes.proofs.Laws.{point_less}
use Rattle.base_codes.proofs.Casts.{coded_seen}
use Rattle.schedule_writing.proofs.Checks.{check-coded}
use Rattle.schedule_writing.proofs.check_day.Goals as goal

pub returns : goal.returns
returns c =
    (rw (c.from.ensures, c.from-2.ensures) at c.check.ensures)
    ∙ check-coded lowest_point c.args.value 1000 5000 c.args.floor c.args.ceiling point_less c.args.spent c.requires
    (coded_seen lowest_point highest_point c.ranges.value c.code.ensures)
