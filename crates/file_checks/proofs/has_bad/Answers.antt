use Prim.Native.Nat.{◌+◌, ◌*◌}
use mathlib.Core.Path.{◌≡◌, sym, ap, ◌∙◌}
use Rattle.theory_lists.specs.First.{nowhere_none, nowhere_more}
use Rattle.file_format.specs.Format.{numbered_at}
use Rattle.file_format.specs.Reading.{bad_cut}
use Rattle.file_checks.proofs.Laws.{some_bad, none_bad}
use Rattle.file_checks.proofs.has_bad.Goals as goal
use Rattle.file_checks.proofs.has_bad.Goals.{After-is_bad}

pub loop-j-init : goal.loop-j-init
loop-j-init c = nowhere_none

judged : (c : After-is_bad) → let a = c.args in c.is_bad.result ≡ bad_cut (numbered_at a.bytes.now (a.from + c.loop-j.j * 8))
judged c = c.is_bad.ensures ∙ ap bad_cut c.numbered_at.ensures

pub returns-then-is_bad : goal.returns-then-is_bad
returns-then-is_bad c =
    some_bad c.loop-j.invariant c.loop-j-test.true (sym (judged (goal.at.returns-then-is_bad c).After-is_bad) ∙ c.if-is_bad.true)

pub loop-j-preserved : goal.loop-j-preserved
loop-j-preserved c =
    nowhere_more c.loop-j.invariant c.loop-j-test.true (sym (judged (goal.at.loop-j-preserved c).After-is_bad) ∙ c.if-is_bad.false)

pub returns : goal.returns
returns c = none_bad c.loop-j.invariant c.loop-j-test.false
