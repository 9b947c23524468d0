use mathlib.Core.Path.{◌≡◌}
use borrow.Author.Rules.{rules}
use Rattle.std.specs.Prelude.{Err}
use Rattle.file_printing.proofs.Laws.{applied_none, applied_more, applied_refused, applied_all}
use Rattle.file_printing.proofs.cut_all.Goals as goal

pub loop-j-init : goal.loop-j-init
loop-j-init c = applied_none c.requires.0

pub cut_once-requires : goal.cut_once-requires
cut_once-requires c = c.loop-j.invariant.bounds

pub returns-in_err-after : goal.returns-in_err-after
returns-in_err-after c =
    let e : c.from_residual.result ≡ Err c.in_err-after.field-0.0 = search rules in
    rw e (applied_refused _ c.loop-j.invariant c.loop-j-test.true c.in_err-after.ensures)

pub loop-j-preserved : goal.loop-j-preserved
loop-j-preserved c = applied_more c.loop-j.invariant c.loop-j-test.true c.in_ok-after.ensures

pub returns : goal.returns
returns c = applied_all c.loop-j.invariant c.loop-j-test.false
