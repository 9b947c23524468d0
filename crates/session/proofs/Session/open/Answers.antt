-- `open` meets its contract: what 1 to 5 say of the profile, or its codes opened where they pass (laws of Checks).
use mathlib.Core.Path.{◌∙◌, refl}
use Rattle.refusals.proofs.Laws.{refused}
use Rattle.session.specs.Opening.{profile}
use Rattle.session.specs.Stages.{coded_as}
use Rattle.session.proofs.Checks.{CodedArrays, all-refused, in_bounds, all-opened}
use Rattle.session.proofs.Session.open.Goals as goal
use Rattle.session.proofs.Session.open.Goals.{After-code_profile}

coded : (c : After-code_profile) → let a = c.args in let n = c.code_profile.new in
    CodedArrays (profile a.numbers a.floors.now a.ceilings.now a.rises.now) n.low n.high n.steps (coded_as c.code_profile.result)
coded c = let e = c.code_profile.ensures in record { answer = e.value; floors = e.low_after; ceilings = e.high_after; rises = e.steps_after }

pub returns-in-Err : goal.returns-in-Err
returns-in-Err c = c.refused.ensures ∙ all-refused (rw c.in-Err.is at (coded (goal.at.returns-in-Err c).After-code_profile)) (refused _)

pub open_codes-requires : goal.open_codes-requires
open_codes-requires c = in_bounds (rw c.in-Ok.is at (coded (goal.at.open_codes-requires c).After-code_profile)) refl

pub returns-in-Ok : goal.returns-in-Ok
returns-in-Ok c = c.open_codes.ensures ∙ all-opened (rw c.in-Ok.is at (coded (goal.at.returns-in-Ok c).After-code_profile)) refl
