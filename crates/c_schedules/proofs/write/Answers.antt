-- `write` meets its contract: a law for each return, by whether both lists are right (`both`) and by what the value's checks gave; where they refuse nothing
-- (`Taken`), the levels that stand in the array are the setpoints' (`PointsStanding`).
use mathlib.Core.Path.{◌≡◌, refl}
use mathlib.Core.Bool.{true}
use Prim.Native.Nat.{◌≤◌}
use mir.Facts.{to_z-of_z}
use native.Mathlib.Omega.{arith}
use borrow.Author.Rules.{rules}
use Rattle.std.specs.Prelude.{Err}
use Rattle.refusals.proofs.Laws.{refused}
use Rattle.c_layout.specs.Layout.{decoding}
use Rattle.c_layout.proofs.Inverse.{decoding_in_bounds}
use Rattle.c_schedules.specs.Schedules.{setpoint_for}
use Rattle.c_schedules.proofs.Laws.{both, no_session, no_list, session-and-list, Taken, code_fits, PointsStanding, points_standing, write_unread, write-refused, write-all}
use Rattle.c_schedules.proofs.write.Goals as goal
use Rattle.c_schedules.proofs.write.Goals.{After-days_of-n, After-load_levels, Else-list-n, In_ok-code}

few : (c : After-days_of-n) → c.days_of-n.result ≤ 512
few c = omega (arith, c.days_of-n.ensures, (decoding_in_bounds c.args.session.now).present.most)

right : (c : Else-list-n) → both c.args.session.now c.args.list.now ≡ true
right c = session-and-list _ _ c.if-session-ne-SESSION_BYTES.false c.days_of-n.ensures c.if-list-n.false

taken : (c : In_ok-code) → let a = c.args in Taken (decoding a.session.now) a.subject a.value c.in_ok-code.code
taken c = record { bounds = decoding_in_bounds c.args.session.now; right = rw (to_z-of_z c.ranges.value) at c.in_ok-code.ensures }

loaded : (c : After-load_levels) → let a = c.args in PointsStanding (setpoint_for (decoding a.session.now) a.subject a.value) (decoding a.session.now).days c.load_levels.new.levels
loaded c =
    points_standing _ (record { bounds = decoding_in_bounds c.args.session.now; right = rw (to_z-of_z c.ranges.value) at c.in_ok-code.ensures }) c.load_levels.ensures

pub returns-then-session-ne-SESSION_BYTES : goal.returns-then-session-ne-SESSION_BYTES
returns-then-session-ne-SESSION_BYTES c =
    let whole = write_unread _ _ _ _ (no_session _ _ c.if-session-ne-SESSION_BYTES.true) in
    record { value = whole.0; list_after = whole.1 }

pub overflow_mul-n : goal.overflow_mul-n
overflow_mul-n c = record { fits = omega (arith, few (goal.at.overflow_mul-n c).After-days_of-n) }

pub returns-then-list-n : goal.returns-then-list-n
returns-then-list-n c =
    let whole = write_unread _ _ _ _ (no_list _ _ c.if-session-ne-SESSION_BYTES.false c.days_of-n.ensures c.if-list-n.true) in
    record { value = whole.0; list_after = whole.1 }

pub returns-in_err-code : goal.returns-in_err-code
returns-in_err-code c =
    let e : c.from_residual.result ≡ Err c.in_err-code.field-0.0 = search rules in
    let whole = write-refused _ _ _ _ (right (goal.at.returns-in_err-code c).Else-list-n) (rw (to_z-of_z c.ranges.value) at c.in_err-code.ensures) (refused _) in
    rw e (record { value = whole.0; list_after = whole.1 })

pub load_levels-requires : goal.load_levels-requires
load_levels-requires c = (search rules, code_fits _ (taken (goal.at.load_levels-requires c).In_ok-code), refl)

pub put_levels-requires : goal.put_levels-requires
put_levels-requires c = (
  omega (arith, few (goal.at.put_levels-requires c).After-days_of-n),
  omega (arith, c.if-list-n.false),
  λ k h. (loaded (goal.at.put_levels-requires c).After-load_levels).small k (omega (arith, c.days_of-n.ensures)),
)

pub returns : goal.returns
returns c =
    let whole = write-all _ _ _ _ (right (goal.at.returns c).Else-list-n) (taken (goal.at.returns c).In_ok-code).right
    c.days_of-n.ensures c.if-list-n.false (loaded (goal.at.returns c).After-load_levels) c.put_levels.ensures in
    record { value = whole.0; list_after = whole.1 }
