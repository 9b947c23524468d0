use Rattle.theory_lists.specs.Filled.{filled_none, filled_more, filled-all}
use Rattle.base_codes.proofs.Loops.{low_seen, short_seen, decoded_seen}
use native.Mathlib.Omega.{arith}
use Rattle.base_codes.proofs.decode_all.Goals as goal

pub loop-k-init : goal.loop-k-init
loop-k-init c = filled_none

pub decode_short-requires : goal.decode_short-requires
decode_short-requires c =
    (low_seen c.ranges.low c.requires.0, c.requires.3 _ (omega arith))

pub loop-k-preserved : goal.loop-k-preserved
loop-k-preserved c =
    let more = c.loop-k-test.true in
    filled_more c.loop-k.invariant more (short_seen c.ranges.low (c.requires.0, c.requires.3 c.loop-k.k more) c.decode_short.ensures)

pub returns : goal.returns
returns c =
    decoded_seen c.ranges.low c.args.codes.now _ c.args.out.now _ (filled-all c.loop-k.invariant c.loop-k-test.false)
