-- `code_lists` meets its contract: the calls say whether a point is outside its bounds, and whether a rise is, and the lengths are right, so the numbers decide
-- (`lists_told`).
use native.Mathlib.Omega.{arith}
use borrow.Author.Rules.{rules}
use Rattle.session.proofs.Checks.{lists_told}
use Rattle.c_lists.specs.Profiles.{byte_profile, profile_of}
use Rattle.c_lists.proofs.Laws.{Long, long}
use Rattle.c_sessions.proofs.Opening.{lengths_right}
use Rattle.c_sessions.proofs.code_lists.Goals as goal
use Rattle.c_sessions.proofs.code_lists.Goals.{Start}

sizes : (c : Start) → Long ((let a = c.args in byte_profile a.numbers a.floors.now a.ceilings.now a.rises.now))
sizes c = long ((let a = c.args in byte_profile a.numbers a.floors.now a.ceilings.now a.rises.now)) c.requires

pub code_ranges-ranges-requires : goal.code_ranges-ranges-requires
code_ranges-ranges-requires c = let z = sizes (goal.at.code_ranges-ranges-requires c).Start in (z.few, omega arith, omega arith)

pub overflow_sub-days : goal.overflow_sub-days
overflow_sub-days c = omega (arith, (sizes (goal.at.overflow_sub-days c).Start).some)

pub code_points-bad_rise-requires : goal.code_points-bad_rise-requires
code_points-bad_rise-requires c = let z = sizes (goal.at.code_points-bad_rise-requires c).Start in (search rules, omega arith, omega arith)

pub returns : goal.returns
returns c =
    let told = lists_told (profile_of ((let a = c.args in byte_profile a.numbers a.floors.now a.ceilings.now a.rises.now)))
    (lengths_right ((let a = c.args in byte_profile a.numbers a.floors.now a.ceilings.now a.rises.now)) c.requires) c.code_numbers.ensures
    c.code_ranges-ranges.ensures.outside_value c.code_points-bad_rise.ensures.value in
    record {
      numbers_value = told;
      crossed_value = c.code_ranges-ranges.ensures.crossed_value;
      low_after =
          c.code_ranges-ranges.ensures.low_after;
      high_after = c.code_ranges-ranges.ensures.high_after;
      steps_after =
          c.code_points-bad_rise.ensures.out_after;
    }
