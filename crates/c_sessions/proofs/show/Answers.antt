-- `show` meets its contract: a law for each return, by what was read from the bytes.
use mathlib.Core.Path.{◌≡◌, refl, ap, ◌∙◌}
use native.Mathlib.Omega.{arith}
use borrow.Author.Rules.{rules}
use Rattle.limits.specs.Limits.{lowest_total}
use Rattle.base_codes.specs.Code.{decoded}
use Rattle.session.proofs.Shows.{total_seen}
use Rattle.c_layout.specs.Layout.{decoding}
use Rattle.c_layout.proofs.Inverse.{decoding_in_bounds}
use Rattle.c_sessions.proofs.Showing.{show_unread, show_first, show_second, show_all}
use Rattle.c_sessions.proofs.show.Goals as goal
use Rattle.c_sessions.proofs.show.Goals.{After-total_of-total}

pub returns-then-session-ne-SESSION_BYTES : goal.returns-then-session-ne-SESSION_BYTES
returns-then-session-ne-SESSION_BYTES c = let whole = show_unread _ _ _ c.if-session-ne-SESSION_BYTES.true refl in record { value = whole.0; floors_after = whole.1.0; ceilings_after = whole.1.1 }

pub returns-then-floors-days : goal.returns-then-floors-days
returns-then-floors-days c = let whole = show_first _ _ _ c.if-session-ne-SESSION_BYTES.false
    (omega (arith, c.if-floors-days.true, c.days_of-days.ensures)) refl in
    record { value = whole.0; floors_after = whole.1.0; ceilings_after = whole.1.1 }

pub returns-then-ceilings-days : goal.returns-then-ceilings-days
returns-then-ceilings-days c = let whole = show_second _ _ _ c.if-session-ne-SESSION_BYTES.false
    (omega (arith, c.if-ceilings-days.true, c.days_of-days.ensures)) refl in
    record { value = whole.0; floors_after = whole.1.0; ceilings_after = whole.1.1 }

pub show_present-requires : goal.show_present-requires
show_present-requires c =
    let e = c.days_of-days.ensures in
    (c.if-session-ne-SESSION_BYTES.false, omega (arith, e, c.if-floors-days.false), omega (arith, e, c.if-ceilings-days.false))

-- the total's bounds, as they are held, and as they are shown
lowest : (c : After-total_of-total) → c.total_of-total.result.lowest ≡ (decoding c.args.session.now).present.lowest
lowest c = c.total_of-total.ensures.0

highest : (c : After-total_of-total) → c.total_of-total.result.highest ≡ (decoding c.args.session.now).present.highest
highest c = c.total_of-total.ensures.1

pub decode-requires : goal.decode-requires
decode-requires c = (search rules, omega (arith, lowest (goal.at.decode-requires c).After-total_of-total, (decoding_in_bounds c.args.session.now).present.lowest))

pub decode-requires-2 : goal.decode-requires-2
decode-requires-2 c = (search rules, omega (arith, highest (goal.at.decode-requires-2 c).After-total_of-total, (decoding_in_bounds c.args.session.now).present.highest))

pub returns : goal.returns
returns c =
    let p = (decoding_in_bounds c.args.session.now).present in
    let e = c.days_of-days.ensures in
    let low = total_seen (c.decode.ensures ∙ ap (decoded lowest_total) (lowest (goal.at.returns c).After-total_of-total)) p.lowest in
    let high = total_seen (c.decode-2.ensures ∙ ap (decoded lowest_total) (highest (goal.at.returns c).After-total_of-total)) p.highest in
    let whole = show_all c.args.session.now _ _ c.if-session-ne-SESSION_BYTES.false (omega (arith, e, c.if-floors-days.false))
    (omega (arith, e, c.if-ceilings-days.false)) (λ i. record { refusal = 0; lowest = low i; highest = high i; spent = c.is_spent.ensures i })
    c.show_present.ensures.floors_after c.show_present.ensures.ceilings_after in
    record { value = whole.0; floors_after = whole.1.0; ceilings_after = whole.1.1 }
