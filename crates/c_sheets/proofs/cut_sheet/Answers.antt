-- `cut_sheet` meets its contract: a law for each return, by what the checks before it found.
use mathlib.Core.Path.{◌≡◌, refl, ap, sym, ◌∙◌}
use Prim.Native.Nat.{◌/◌}
use lib.ListN.{length}
use borrow.Author.Rules.{rules}
use Rattle.std.specs.Prelude.{Err}
use Rattle.refusals.proofs.Laws.{refused}
use Rattle.session_sheets.specs.Sheets.{sheet_refusal}
use Rattle.c_sheets.specs.Sheets.{asked_in}
use Rattle.c_sheets.proofs.Laws.{early, sheet_unread, sheet_early, sheet_odd, sheet_room, sheet_all}
use Rattle.c_sheets.proofs.cut_sheet.Goals as goal
use Rattle.c_sheets.proofs.cut_sheet.Goals.{In_ok-check_sheet, After-days_of}

pub returns-then-session-ne-SESSION_BYTES : goal.returns-then-session-ne-SESSION_BYTES
returns-then-session-ne-SESSION_BYTES c =
    let w = sheet_unread _ _ _ _ c.if-session-ne-SESSION_BYTES.true refl in
    record { value = w.0; session_after = w.1.0; answers_after = w.1.1.0; changed_after = w.1.1.1 }

-- what the checks look at, by the day count that was read
same : (c : After-days_of) → let a = c.args in
    sheet_refusal c.days_of.result (asked_in (length a.cuts.now)) (length a.answers.now / 4) (length a.changed.now / 2) ≡ early a.session.now a.cuts.now a.answers.now a.changed.now
same c = let a = c.args in ap (λ n. sheet_refusal n (asked_in (length a.cuts.now)) (length a.answers.now / 4) (length a.changed.now / 2)) c.days_of.ensures

pub returns-in_err-check_sheet : goal.returns-in_err-check_sheet
returns-in_err-check_sheet c =
    let e : c.from_residual.result ≡ Err c.in_err-check_sheet.field-0.0 = search rules in
    let r = c.in_err-check_sheet.ensures ∙ same (goal.at.returns-in_err-check_sheet c).After-days_of in
    let w = sheet_early _ _ _ _ c.if-session-ne-SESSION_BYTES.false r (refused c.in_err-check_sheet.field-0.0) refl in
    rw e (record { value = w.0; session_after = w.1.0; answers_after = w.1.1.0; changed_after = w.1.1.1 })

passed : (c : In_ok-check_sheet) → let a = c.args in
    sheet_refusal c.days_of.result (asked_in (length a.cuts.now)) (length a.answers.now / 4) (length a.changed.now / 2) ≡ early a.session.now a.cuts.now a.answers.now a.changed.now
    → early a.session.now a.cuts.now a.answers.now a.changed.now ≡ 0
passed c e = sym (c.in_ok-check_sheet.ensures ∙ e)

pub returns-then-cuts-ne0 : goal.returns-then-cuts-ne0
returns-then-cuts-ne0 c =
    let at = goal.at.returns-then-cuts-ne0 c in
    let w = sheet_odd _ _ _ _ c.if-session-ne-SESSION_BYTES.false (passed at.In_ok-check_sheet (same at.After-days_of)) c.if-cuts-ne0.true refl in
    record { value = w.0; session_after = w.1.0; answers_after = w.1.1.0; changed_after = w.1.1.1 }

pub make_cuts-requires : goal.make_cuts-requires
make_cuts-requires c =
    let at = goal.at.make_cuts-requires c in
    sheet_room _ _ _ _ c.if-session-ne-SESSION_BYTES.false (passed at.In_ok-check_sheet (same at.After-days_of))

pub returns : goal.returns
returns c =
    let at = goal.at.returns c in
    let w = sheet_all _ _ _ _ c.if-session-ne-SESSION_BYTES.false (passed at.In_ok-check_sheet (same at.After-days_of)) c.if-cuts-ne0.false c.make_cuts.ensures in
    record { value = w.0; session_after = w.1.0; answers_after = w.1.1.0; changed_after = w.1.1.1 }
