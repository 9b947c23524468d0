-- `code_numbers` meets its contract: a law of Stages for each return.
use borrow.Author.Rules.{rules}
use Rattle.session.proofs.Stages.{Inside, point_refused, rise-refused, lowest-refused, highest-refused, numbers-coded}
use Rattle.session.proofs.code_numbers.Goals as goal
use Rattle.session.proofs.code_numbers.Goals.{Else-bad_rise, After-code_total, After-code_total-2}
use mathlib.Core.Path.{◌≡◌, ap, ◌∙◌}
use Rattle.limits.specs.Limits.{lowest_total, highest_total}
use Rattle.base_codes.specs.Code.{coded}

inside : (c : Else-bad_rise) → let a = c.args in Inside a.bad_point a.bad_rise
inside c = record { points = c.if-bad_point.false; rises = c.if-bad_rise.false }

lowest : (c : After-code_total) → c.code_total.result ≡ coded lowest_total highest_total c.args.numbers.lowest
lowest c = search rules

highest : (c : After-code_total-2) → c.code_total-2.result ≡ coded lowest_total highest_total c.args.numbers.highest
highest c = search rules

pub returns-then-bad_point : goal.returns-then-bad_point
returns-then-bad_point c = point_refused _ _ c.if-bad_point.true

pub returns-then-bad_rise : goal.returns-then-bad_rise
returns-then-bad_rise c = rise-refused _ _ c.if-bad_point.false c.if-bad_rise.true

pub returns-in_default : goal.returns-in_default
returns-in_default c = lowest-refused c.args.numbers (inside (goal.at.returns-in_default c).Else-bad_rise) (lowest (goal.at.returns-in_default c).After-code_total) c.in_default.is

pub returns-in_default-code_total : goal.returns-in_default-code_total
returns-in_default-code_total c =
    let at = goal.at.returns-in_default-code_total c in
    highest-refused c.args.numbers (inside at.Else-bad_rise) (lowest at.After-code_total) c.in-Some.is (highest at.After-code_total-2)
    c.in_default-code_total.is

pub returns : goal.returns
returns c =
    let at = goal.at.returns c in
    numbers-coded c.args.numbers (inside at.Else-bad_rise) (lowest at.After-code_total) c.in-Some.is (highest at.After-code_total-2) c.in-Some-code_total.is
