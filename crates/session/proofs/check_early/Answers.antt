-- `check_early` meets its contract: what 1 to 5 say of the profile, and 6 and 13 of its codes where they pass (laws of Checks).
use mathlib.Core.Path.{◌≡◌, refl, ap, ◌∙◌}
use borrow.Author.Rules.{rules}
use Rattle.std.specs.Prelude.{Ok, Err}
use Rattle.refusals.proofs.Laws.{refused}
use Rattle.session.specs.Opening.{profile}
use Rattle.session.specs.Stages.{coded_as}
use Rattle.session.proofs.Checks.{CodedArrays, early_refused, early_range, in_bounds}
use Rattle.session.proofs.check_early.Goals as goal
use Rattle.session.proofs.check_early.Goals.{After-code_profile}

coded : (c : After-code_profile) → let a = c.args in let n = c.code_profile.new in
    CodedArrays (profile a.numbers a.floors.now a.ceilings.now a.rises.now) n.low n.high n.steps (coded_as c.code_profile.result)
coded c = let e = c.code_profile.ensures in record { answer = e.value; floors = e.low_after; ceilings = e.high_after; rises = e.steps_after }

pub returns-in_err-coded : goal.returns-in_err-coded
returns-in_err-coded c =
    let e : c.from_residual.result ≡ Err c.in_err-coded.field-0.0 = search rules in
    rw e (early_refused (rw c.in_err-coded.was at (coded (goal.at.returns-in_err-coded c).After-code_profile)) (refused _))

pub is_crossed-crossed-requires : goal.is_crossed-crossed-requires
is_crossed-crossed-requires c = (in_bounds (rw c.in_ok-coded.was at (coded (goal.at.is_crossed-crossed-requires c).After-code_profile)) refl).most

pub returns : goal.returns
returns c =
    early_range (rw c.in_ok-coded.was at (coded (goal.at.returns c).After-code_profile)) refl c.is_crossed-crossed.ensures c.check_ranges.ensures
