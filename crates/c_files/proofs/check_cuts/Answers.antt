use Prim.Native.Nat.{◌*◌}
use mathlib.Core.Path.{◌≡◌, ap, ◌∙◌}
use borrow.Author.Rules.{rules}
use Rattle.std.specs.Prelude.{Err}
use Rattle.theory_lists.specs.First.{zero_fails, nonzero-here, nonzero-all, nowhere_none, nowhere_more}
use Rattle.refusals.specs.Number.{refusal_of}
use Rattle.refusals.proofs.Laws.{refused, number_said, passed}
use Rattle.file_format.specs.Format.{numbered_at}
use Rattle.c_files.specs.Writing.{numbered_refusal}
use Rattle.c_files.proofs.check_cuts.Goals as goal
use Rattle.c_files.proofs.check_cuts.Goals.{After-check_numbered}

by-numbered : (c : After-check_numbered) → let a = c.args in refusal_of c.check_numbered.result ≡ numbered_refusal a.days (numbered_at a.cuts.now (c.loop-j.j * 8))
by-numbered c = c.check_numbered.ensures ∙ ap (numbered_refusal _) c.numbered_at.ensures

pub loop-j-init : goal.loop-j-init
loop-j-init c = nowhere_none

pub returns-in_err-check_numbered : goal.returns-in_err-check_numbered
returns-in_err-check_numbered c =
    let r : c.from_residual.result ≡ Err c.in_err-check_numbered.field-0.0 = search rules in
    let e = number_said (by-numbered (goal.at.returns-in_err-check_numbered c).After-check_numbered) c.in_err-check_numbered.was in
    rw r (e ∙ nonzero-here _ c.loop-j.invariant c.loop-j-test.true (λ h. refused _ (e ∙ h)))

pub loop-j-preserved : goal.loop-j-preserved
loop-j-preserved c =
    nowhere_more c.loop-j.invariant c.loop-j-test.true
    (zero_fails _ (passed (by-numbered (goal.at.loop-j-preserved c).After-check_numbered) c.in_ok-check_numbered.was))

pub returns : goal.returns
returns c = nonzero-all _ c.loop-j.invariant c.loop-j-test.false
