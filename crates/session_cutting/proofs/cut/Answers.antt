-- `cut` meets its contract: each return knows what the checks before it found. That the cut is well-formed is said once, where its check has passed.
use mathlib.Core.Path.{◌≡◌, refl, sym, ◌∙◌}
use native.Mathlib.Omega.{arith}
use Rattle.refusals.proofs.Laws.{refused}
use Rattle.session_cutting.specs.Cutting.{malformed}
use Rattle.session_cutting.proofs.Stages.{checked-refusal, checked-clips, cut-malformed, cut_short, cut-spent, cut-taken, list_left}
use Rattle.session_cutting.proofs.cut.Goals as goal
use Rattle.session_cutting.proofs.cut.Goals.{In-Ok}

pub returns-in-Err : goal.returns-in-Err
returns-in-Err c =
    let m = checked-refusal _ _ (rw c.in-Err.is at c.check.ensures) in
    let apart = refused c.in-Err.refusal in
    record { value = c.refuse.ensures ∙ cut-malformed _ _ _ m apart; changed_after = list_left _ _ _ c.refuse.ensures apart }

formed : (c : In-Ok) → let a = c.args in malformed a.session.days a.cut ≡ 0
formed c = sym (checked-refusal _ _ (rw c.in-Ok.is at c.check.ensures))

pub returns-then-changed-n : goal.returns-then-changed-n
returns-then-changed-n c =
    let e = c.refuse-then-changed-n.ensures in
    record { value = e ∙ cut_short _ _ _ (formed (goal.at.returns-then-changed-n c).In-Ok) c.if-changed-n.true; changed_after = list_left _ _ _ e (λ z. absurd (omega arith)) }

pub returns-then-session : goal.returns-then-session
returns-then-session c =
    let e = c.refuse-then-session.ensures in
    record {
      value = e ∙ cut-spent _ _ _ (formed (goal.at.returns-then-session c).In-Ok) c.if-changed-n.false c.if-session.true;
      changed_after = list_left _ _ _ e (λ z. absurd (omega arith));
    }

pub tighten_again-requires : goal.tighten_again-requires
tighten_again-requires c =
    let bounds = c.requires in
    (bounds, formed (goal.at.tighten_again-requires c).In-Ok, checked-clips _ _ (rw c.in-Ok.is at c.check.ensures) bounds.present.most refl, c.if-changed-n.false)

pub returns : goal.returns
returns c =
    let t = cut-taken _ _ _ (formed (goal.at.returns c).In-Ok) c.if-changed-n.false c.if-session.false in
    record { value = c.tighten_again.ensures.value ∙ t; changed_after = c.tighten_again.ensures.changed_after }
