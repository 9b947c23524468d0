-- `inspect` meets its contract: a law for each return, by whether both lists are right (`both`) and whether the session is spent.
use mathlib.Core.Path.{◌≡◌}
use mathlib.Core.Bool.{true}
use native.Mathlib.Omega.{arith}
use borrow.Author.Rules.{rules}
use Rattle.c_layout.proofs.Inverse.{decoding_in_bounds}
use Rattle.c_schedules.proofs.Laws.{both, no_session, no_list, session-and-list, inspect_unread, inspect_spent, inspect_judged}
use Rattle.c_schedules.proofs.inspect.Goals as goal
use Rattle.c_schedules.proofs.inspect.Goals.{Else-list-days_of}

right : (c : Else-list-days_of) → both c.args.session.now c.args.list.now ≡ true
right c = session-and-list _ _ c.if-session-ne-SESSION_BYTES.false c.days_of.ensures c.if-list-days_of.false

pub returns-then-session-ne-SESSION_BYTES : goal.returns-then-session-ne-SESSION_BYTES
returns-then-session-ne-SESSION_BYTES c = inspect_unread _ _ (no_session _ _ c.if-session-ne-SESSION_BYTES.true)

pub overflow_mul-days_of : goal.overflow_mul-days_of
overflow_mul-days_of c = record { fits = omega (arith, c.days_of.ensures, (decoding_in_bounds c.args.session.now).present.most) }

pub returns-then-list-days_of : goal.returns-then-list-days_of
returns-then-list-days_of c = inspect_unread _ _ (no_list _ _ c.if-session-ne-SESSION_BYTES.false c.days_of.ensures c.if-list-days_of.true)

pub returns-then-is_spent : goal.returns-then-is_spent
returns-then-is_spent c = inspect_spent _ _ (right (goal.at.returns-then-is_spent c).Else-list-days_of) c.is_spent.ensures c.if-is_spent.true

pub judge_points-requires : goal.judge_points-requires
judge_points-requires c = (search rules, omega (arith, c.days_of.ensures, c.if-list-days_of.false))

pub returns : goal.returns
returns c =
    inspect_judged _ _ (right (goal.at.returns c).Else-list-days_of) c.is_spent.ensures c.if-is_spent.false c.judge_points.ensures
