-- `cut_asked` meets its contract: each arm knows whether the kind is known.
use mathlib.Core.Path.{refl, ◌∙◌}
use native.Mathlib.Omega.{arith}
use Rattle.session_cutting.proofs.Stages.{numbered_unknown, numbered-known, list_left}
use Rattle.session_cutting.proofs.cut_asked.Goals as goal

pub returns-in-Some : goal.returns-in-Some
returns-in-Some c = record { value = c.cut.ensures.value ∙ numbered-known _ _ refl c.in-Some.is; changed_after = c.cut.ensures.changed_after }

pub returns-in-None : goal.returns-in-None
returns-in-None c =
    let e = c.refuse.ensures in
    record { value = e ∙ numbered_unknown _ _ refl c.in-None.is; changed_after = list_left _ _ _ e (λ z. absurd (omega arith)) }
