-- `decode` meets its contract: the sum is the decoded number, and fits (`shown`, `add_fits` of Casts).
use Rattle.base_codes.proofs.Casts.{add_fits, shown}
use Rattle.base_codes.proofs.decode.Goals as goal

pub returns : goal.returns
returns c = shown c.ranges.low c.requires

pub overflow_add-result : goal.overflow_add-result
overflow_add-result c = add_fits c.ranges.low c.requires
