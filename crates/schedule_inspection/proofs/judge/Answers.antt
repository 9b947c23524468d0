-- `judge` meets its contract: every number of the list is a setpoint, so each has its code where it is stored, and what the codes tell is what the list tells.
use mathlib.Core.Path.{◌≡◌, ◌∙◌}
use native.Mathlib.Omega.{arith}
use Rattle.limits.specs.Limits.{lowest_setpoint, highest_setpoint}
use Rattle.base_codes.specs.Code.{within, on}
use Rattle.base_codes.proofs.Every.{every_on}
use Rattle.schedule_inspection.specs.Inspecting.{judged}
use Rattle.schedule_inspection.specs.Stages.{judged_codes}
use Rattle.schedule_inspection.proofs.Bridge.{setpoint_codes, judged-codes}
use Rattle.schedule_inspection.proofs.judge.Goals as goal
use Rattle.schedule_inspection.proofs.judge.Goals.{After-code_all}

-- what the codes tell
numbered : (c : After-code_all) → let a = c.args in let s = a.session in judged_codes c.code_all.new.out s.present.floors s.present.ceilings s.rises s.days s.first s.present.lowest s.present.highest ≡ judged s a.list.now
numbered c =
    let p = c.requires in
    let x = c.args.list.now in
    let e = c.code_all.ensures in
    judged-codes _ x _ p.1
    (setpoint_codes (on x) _ p.0.present.most (λ k h. every_on (within lowest_setpoint highest_setpoint) x e.xs_value k (omega (arith, p.1))) (rw p.1 at e.out_after))

pub returns : goal.returns
returns c = c.judge_codes.ensures ∙ numbered (goal.at.returns c).After-code_all
