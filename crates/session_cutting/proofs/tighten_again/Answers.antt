-- `tighten_again` meets its contract: the arrays are the tightened ranges, and each return knows whether there is a schedule.
use mathlib.Core.Path.{◌≡◌, refl, ◌∙◌}
use native.Mathlib.Omega.{arith}
use Rattle.tighten_filtering.specs.Boxed.{tight_as}
use Rattle.session_changed.specs.Changes.{Narrowed}
use Rattle.session_changed.proofs.Laws.{narrowed_same}
use Rattle.session_cutting.specs.Cutting.{clipped, retightened}
use Rattle.session_cutting.proofs.Laws.{tightened_narrows}
use Rattle.session_cutting.proofs.Stages.{again-found, again-none, list_left, list_written_lem}
use Rattle.session_cutting.proofs.tighten_again.Goals as goal
use Rattle.session_cutting.proofs.tighten_again.Goals.{After-cut_ranges, In-Some}

is-tight : (c : After-cut_ranges) → let r = c.cut_ranges in tight_as r.result r.new.floors r.new.ceilings ≡ retightened c.args.session (clipped c.args.session.present c.args.cut)
is-tight c = c.cut_ranges.ensures

pub cut_ranges-requires : goal.cut_ranges-requires
cut_ranges-requires c = let p = c.requires in (p.0.present, p.1, p.2)

pub returns-in_default : goal.returns-in_default
returns-in_default c =
    let e = c.spend.ensures in
    let t = rw c.in_default.is at (is-tight (goal.at.returns-in_default c).After-cut_ranges) in
    record { value = e ∙ again-none c.args.session c.args.cut t refl; changed_after = list_left _ _ _ e (λ z. absurd (omega arith)) }

-- the ranges before and the tightened ones
narrows : (c : In-Some) → let a = c.args in Narrowed a.session.present.floors a.session.present.ceilings c.cut_ranges.new.floors c.cut_ranges.new.ceilings a.session.days
narrows c =
    let p = c.requires in
    let t = rw c.in-Some.is at c.cut_ranges.ensures in
    tightened_narrows c.args.session c.args.cut p.0 p.1 t refl

pub list_differences-count-requires : goal.list_differences-count-requires
list_differences-count-requires c =
    let p = c.requires in
    (p.0.present.most, p.3, narrowed_same (narrows (goal.at.list_differences-count-requires c).In-Some))

pub returns : goal.returns
returns c =
    let t = rw c.in-Some.is at (is-tight (goal.at.returns c).After-cut_ranges) in
    record {
      value = c.accept.ensures ∙ again-found c.args.session c.args.cut t refl c.list_differences-count.ensures.value;
      changed_after = c.list_differences-count.ensures.changed_after ∙ list_written_lem _ _ _ c.accept.ensures;
    }
