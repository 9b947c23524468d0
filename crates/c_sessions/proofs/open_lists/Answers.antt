-- `open_lists` meets its contract: what is coded is the profile's (`lists-coded`), and each return is a law of Opening by what opening over codes gave.
use mathlib.Core.Path.{◌≡◌, refl, ◌∙◌}
use borrow.Author.Rules.{rules}
use Rattle.std.specs.Prelude.{Err}
use Rattle.refusals.proofs.Laws.{refused}
use Rattle.tighten_filtering.specs.Boxed.{boxed}
use Rattle.session.specs.Opening.{fresh, opened, Opened}
use Rattle.session.specs.Stages.{coded_as}
use Rattle.session.proofs.Checks.{CodedArrays, all-refused, days-kept, in_bounds, all-opened}
use Rattle.session.proofs.Stages.{session-refused, session-fresh}
use Rattle.c_lists.specs.Profiles.{byte_profile, profile_of}
use Rattle.c_sessions.proofs.Opening.{lists-coded, lists-crossed, open_refused, open_stored, fresh_in_bounds}
use Rattle.c_sessions.proofs.open_lists.Goals as goal
use Rattle.c_sessions.proofs.open_lists.Goals.{After-code_lists-lists, After-open_ranges, In_ok-coded, In_ok-total}

coded : (c : After-code_lists-lists) → let a = c.args in let n = c.code_lists-lists.new in
    CodedArrays (profile_of (byte_profile a.numbers a.floors.now a.ceilings.now a.rises.now)) n.low n.high n.steps (coded_as c.code_lists-lists.result.numbers)
coded c =
    let a = c.args in
    let e = c.code_lists-lists.ensures in
    lists-coded (byte_profile a.numbers a.floors.now a.ceilings.now a.rises.now) c.requires.1 e.numbers_value (e.low_after, (e.high_after, e.steps_after))

pub returns-in_err-coded : goal.returns-in_err-coded
returns-in_err-coded c =
    let e : c.from_residual.result ≡ Err c.in_err-coded.field-0.0 = search rules in
    let d = rw c.in_err-coded.was at (coded (goal.at.returns-in_err-coded c).After-code_lists-lists) in
    let apart = refused c.in_err-coded.field-0.0 in
    let whole = open_refused _ _ c.requires.0 c.requires.1 apart (all-refused d apart) in
    record { value = rw e whole.0; session_after = whole.1 }

taken : (c : In_ok-coded) → let a = c.args in let n = c.code_lists-lists.new in
    CodedArrays (profile_of (byte_profile a.numbers a.floors.now a.ceilings.now a.rises.now)) n.low n.high n.steps (coded_as c.code_lists-lists.result.numbers)
    → CodedArrays (profile_of (byte_profile a.numbers a.floors.now a.ceilings.now a.rises.now)) n.low n.high n.steps (record { refusal = 0; numbers = c.in_ok-coded.coded })
taken c d = rw c.in_ok-coded.was at d

pub open_ranges-requires : goal.open_ranges-requires
open_ranges-requires c =
    let a = c.args in
    let at = goal.at.open_ranges-requires c in
    let d = taken at.In_ok-coded (coded at.After-code_lists-lists) in
    let e = c.code_lists-lists.ensures in
    (in_bounds d refl, lists-crossed (byte_profile a.numbers a.floors.now a.ceilings.now a.rises.now) c.requires.1 (days-kept d refl) e.crossed_value (e.low_after, e.high_after))

session-opened : (c : In_ok-total) → let m = c.in_ok-coded.coded in let t = c.in_ok-total.total in let n = c.open_ranges.new in
    let s = fresh m.days m.first c.code_lists-lists.new.steps (record { floors = n.floors; ceilings = n.ceilings; lowest = t.lowest; highest = t.highest }) in
    let a = c.args in
    CodedArrays (profile_of (byte_profile a.numbers a.floors.now a.ceilings.now a.rises.now)) c.code_lists-lists.new.low c.code_lists-lists.new.high c.code_lists-lists.new.steps
    (record { refusal = 0; numbers = m }) → ◌≡◌ {A = Opened} (record { refusal = 0; session = s }) (opened (profile_of (byte_profile a.numbers a.floors.now a.ceilings.now a.rises.now)))
session-opened c d =
    let n = c.code_lists-lists.new in
    session-fresh (boxed n.low n.high n.steps c.in_ok-coded.coded) _ _ c.open_ranges.ensures c.in_ok-total.was ∙ all-opened d refl

pub returns-in_err-total : goal.returns-in_err-total
returns-in_err-total c =
    let e : c.from_residual-in_err-total.result ≡ Err c.in_err-total.field-0.0 = search rules in
    let at = goal.at.returns-in_err-total c in
    let n = c.code_lists-lists.new in
    let d = taken at.In_ok-coded (coded at.After-code_lists-lists) in
    let refuses = session-refused (boxed n.low n.high n.steps c.in_ok-coded.coded) _ _ c.open_ranges.ensures c.in_err-total.was ∙ all-opened d refl in
    let whole = open_refused _ _ c.requires.0 c.requires.1 (refused c.in_err-total.field-0.0) refuses in
    record { value = rw e whole.0; session_after = whole.1 }

pub store_fresh-requires : goal.store_fresh-requires
store_fresh-requires c =
    let a = c.args in
    let at = goal.at.store_fresh-requires c in
    let d = taken at.In_ok-coded (coded at.After-code_lists-lists) in
    (fresh_in_bounds (byte_profile a.numbers a.floors.now a.ceilings.now a.rises.now) _ _ _ _ (session-opened at.In_ok-total d), c.requires.0)

pub returns : goal.returns
returns c =
    let at = goal.at.returns c in
    let d = taken at.In_ok-coded (coded at.After-code_lists-lists) in
    let whole = open_stored _ _ c.requires.0 c.requires.1 _ (session-opened at.In_ok-total d) c.store_fresh.ensures in
    record { value = whole.0; session_after = whole.1 }
