use mathlib.Core.Path.{◌≡◌, sym, ◌∙◌}
use borrow.Author.Rules.{rules}
use Rattle.std.specs.Prelude.{Err}
use Rattle.theory_lists.specs.First.{zero_fails, nonzero-here, nonzero-all, nowhere_none, nowhere_more}
use Rattle.refusals.proofs.Laws.{refused}
use Rattle.session_cutting.proofs.Stages.{checked-refusal}
use Rattle.file_writing.proofs.check_entries.Goals as goal

pub loop-j-init : goal.loop-j-init
loop-j-init c = nowhere_none

pub returns-in_err-check : goal.returns-in_err-check
returns-in_err-check c =
    let e : c.from_residual.result ≡ Err c.in_err-check.field-0.0 = search rules in
    let m = checked-refusal _ _ c.in_err-check.ensures in
    rw e (m ∙ nonzero-here _ c.loop-j.invariant c.loop-j-test.true (λ h. refused _ (m ∙ h)))

pub loop-j-preserved : goal.loop-j-preserved
loop-j-preserved c =
    nowhere_more c.loop-j.invariant c.loop-j-test.true (zero_fails _ (sym (checked-refusal _ _ c.in_ok-check.ensures)))

pub returns : goal.returns
returns c = nonzero-all _ c.loop-j.invariant c.loop-j-test.false
