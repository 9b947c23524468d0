-- `open_ranges` meets its contract: a law of Stages for each return.
use mathlib.Core.Path.{◌≡◌, refl}
use borrow.Author.Rules.{rules}
use Rattle.std.specs.Prelude.{Err, ok_or}
use Rattle.refusals.specs.declared.Refusal.TheVariants.{NoSchedule}
use Rattle.refusals.proofs.Laws.{refused}
use Rattle.session.specs.Stages.{range_refusal}
use Rattle.session.proofs.Stages.{ranges-refused, first_in_bounds, ranges-tight}
use Rattle.session.proofs.open_ranges.Goals as goal
use Rattle.session.proofs.open_ranges.Goals.{In_ok-check_ranges}

pub returns-in_err-check_ranges : goal.returns-in_err-check_ranges
returns-in_err-check_ranges c =
    let e : c.from_residual.result ≡ Err c.in_err-check_ranges.field-0.0 = search rules in
    rw e (ranges-refused _ _ _ _ c.requires.1 c.in_err-check_ranges.ensures (refused _))

clear : (c : In_ok-check_ranges) → 0 ≡ range_refusal c.args.crossed c.args.numbers
clear c = c.in_ok-check_ranges.ensures

pub tighten-total-requires : goal.tighten-total-requires
tighten-total-requires c =
    let a = c.args in
    first_in_bounds a.floors.now a.ceilings.now a.rises.now a.numbers c.requires.1 (clear (goal.at.tighten-total-requires c).In_ok-check_ranges) refl c.requires.0

pub returns : goal.returns
returns c =
    let e : c.ok_or.result ≡ ok_or c.tighten-total.result NoSchedule = c.ok_or.ensures.value in
    rw e (ranges-tight _ _ _ _ c.requires.1 (clear (goal.at.returns c).In_ok-check_ranges) refl c.tighten-total.result _ _ c.tighten-total.ensures)
