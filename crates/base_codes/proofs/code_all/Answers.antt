use mathlib.Core.Path.{refl}
use lib.ListN.{length}
use Rattle.base_codes.specs.Code.{on}
use Rattle.base_codes.proofs.Casts.{bounds_seen}
use Rattle.base_codes.proofs.Loops.{coding_none, coding_more, coding_seen}
use borrow.Author.Rules.{rules}
use Rattle.base_codes.proofs.code_all.Goals as goal

pub loop-i-init : goal.loop-i-init
loop-i-init c = coding_none

pub code_cell-cell-requires : goal.code_cell-cell-requires
code_cell-cell-requires c = bounds_seen c.ranges.low c.ranges.high c.requires.0

pub loop-i-preserved : goal.loop-i-preserved
loop-i-preserved c =
    coding_more c.loop-i.invariant _ c.loop-i-test.true (search rules) refl c.code_cell-cell.ensures c.unwrap_or.ensures c.is_none-outside.ensures

pub returns : goal.returns
returns c =
    let xs = c.args.xs.now in let whole = coding_seen c.ranges.low c.ranges.high (on xs) (length xs) xs c.args.out.now c.loop-i.invariant refl
    (λ k h. refl) c.loop-i-test.false in record { value = whole.0; out_after = whole.1.0; xs_value = whole.1.1 }
