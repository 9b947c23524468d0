-- `check_total` meets its contract: the value's code tells what the value does (`check-coded`).
use mathlib.Core.Path.{◌∙◌}
use Rattle.limits.specs.Limits.{lowest_total, highest_total}
use Rattle.base_codes.proofs.Laws.{total_less}
use Rattle.base_codes.proofs.Casts.{coded_seen}
use Rattle.schedule_writing.proofs.Checks.{check-coded}
use Rattle.schedule_writing.proofs.check_total.Goals as goal

pub returns : goal.returns
returns c =
    c.check.ensures
    ∙ check-coded lowest_total c.args.value 512000 2560000 c.args.lowest c.args.highest total_less c.args.spent c.requires
    (coded_seen lowest_total highest_total c.ranges.value c.code.ensures)
