-- `code_profile` meets its contract: 1 and 2 leave the arrays, else each list is coded, and what its call told decides with the numbers (laws of Checks).
use mathlib.Core.Path.{◌≡◌, sym, ◌∙◌}
use borrow.Author.Rules.{rules}
use Rattle.std.specs.Prelude.{Err}
use Rattle.refusals.proofs.Laws.{refused}
use native.Mathlib.Omega.{arith}
use Rattle.limits.specs.Limits.{lowest_point, highest_point, lowest_rise, highest_rise}
use Rattle.session.specs.Opening.{profile}
use Rattle.session.specs.Stages.{lengths_of}
use Rattle.session.proofs.Entered.{Sized}
use Rattle.session.proofs.Checks.{list-kept, lengths_refused, list-coded, lists_told, sizes}
use Rattle.session.proofs.code_profile.Goals as goal
use Rattle.session.proofs.code_profile.Goals.{In_ok-check_lengths}

right : (c : In_ok-check_lengths) → let a = c.args in lengths_of (profile a.numbers a.floors.now a.ceilings.now a.rises.now) ≡ 0
right c = sym c.in_ok-check_lengths.ensures

sized : (c : In_ok-check_lengths) → let a = c.args in Sized (profile a.numbers a.floors.now a.ceilings.now a.rises.now)
sized c = let a = c.args in sizes (profile a.numbers a.floors.now a.ceilings.now a.rises.now) (right c)

pub returns-in_err-check_lengths : goal.returns-in_err-check_lengths
returns-in_err-check_lengths c =
    let a = c.args in
    let e = c.in_err-check_lengths.ensures in
    let t = refused c.in_err-check_lengths.field-0.0 in
    let r : c.from_residual.result ≡ Err c.in_err-check_lengths.field-0.0 = search rules in
    let floors = list-kept ((let a = c.args in profile a.numbers a.floors.now a.ceilings.now a.rises.now)) lowest_point highest_point a.floors.now a.low.now e t in
    let ceilings = list-kept ((let a = c.args in profile a.numbers a.floors.now a.ceilings.now a.rises.now)) lowest_point highest_point a.ceilings.now a.high.now e t in
    let rises = list-kept ((let a = c.args in profile a.numbers a.floors.now a.ceilings.now a.rises.now)) lowest_rise highest_rise a.rises.now
    a.steps.now e t in record {
      value = rw r (
          lengths_refused ((let a = c.args in profile a.numbers a.floors.now a.ceilings.now a.rises.now)) _ e t);
      low_after = floors;
      high_after =
          ceilings;
      steps_after = rises;
    }

pub code_all-bad_floor-requires : goal.code_all-bad_floor-requires
code_all-bad_floor-requires c = let w = sized (goal.at.code_all-bad_floor-requires c).In_ok-check_lengths in (search rules, omega (arith, w.floors, w.few))

pub code_all-bad_ceiling-requires : goal.code_all-bad_ceiling-requires
code_all-bad_ceiling-requires c = let w = sized (goal.at.code_all-bad_ceiling-requires c).In_ok-check_lengths in (search rules, omega (arith, w.ceilings, w.few))

pub code_all-bad_rise-requires : goal.code_all-bad_rise-requires
code_all-bad_rise-requires c = let w = sized (goal.at.code_all-bad_rise-requires c).In_ok-check_lengths in (search rules, omega (arith, w.rises, w.few))

pub returns : goal.returns
returns c =
    let p = (let a = c.args in profile a.numbers a.floors.now a.ceilings.now a.rises.now) in
    let a = c.args in
    let floors = list-coded p (right (goal.at.returns c).In_ok-check_lengths) lowest_point highest_point p.floors a.low.now c.code_all-bad_floor.ensures.out_after in
    let ceilings = list-coded p (right (goal.at.returns c).In_ok-check_lengths) lowest_point highest_point p.ceilings a.high.now c.code_all-bad_ceiling.ensures.out_after in
    let rises = list-coded p (right (goal.at.returns c).In_ok-check_lengths) lowest_rise highest_rise p.rises a.steps.now
    c.code_all-bad_rise.ensures.out_after in record {
      value =
          lists_told p (right (goal.at.returns c).In_ok-check_lengths) c.code_numbers.ensures
          (cc (c.code_all-bad_floor.ensures.value, c.code_all-bad_ceiling.ensures.value)) c.code_all-bad_rise.ensures.value;
      low_after =
          floors;
      high_after = ceilings;
      steps_after = rises;
    }
