-- `cut_sheet` meets its contract: each return knows whether the sheet is refused. The days are listed from the session that the cuts left.
use mathlib.Core.Path.{◌≡◌, sym}
use lib.ListN.{length}
use Rattle.refusals.proofs.Laws.{refused, number_said, passed}
use Rattle.session_sheets.specs.Sheets.{asked_on, sheet_refusal}
use Rattle.session_sheets.proofs.Laws.{sheet_passed, made_narrows, sheet_refused, sheet_made}
use Rattle.session_sheets.proofs.cut_sheet.Goals as goal
use Rattle.session_sheets.proofs.cut_sheet.Goals.{In_default}

pub returns-in-Err : goal.returns-in-Err
returns-in-Err c =
    let a = c.args in
    let whole = sheet_refused a.session a.sheet a.room a.changed.now (number_said c.check_sheet.ensures c.in-Err.is) (refused c.in-Err.refusal) c.refuse.ensures in
    record { value = whole.0; changed_after = whole.1 }

-- no check refuses the sheet
none : (c : In_default) → let a = c.args in sheet_refusal a.session.days a.sheet.count a.room (length a.changed.now) ≡ 0
none c = passed c.check_sheet.ensures c.in_default.is

pub cut_all-made-requires : goal.cut_all-made-requires
cut_all-made-requires c = (c.requires, (sheet_passed _ _ _ _ (none (goal.at.cut_all-made-requires c).In_default)).0)

pub list_end-days-requires : goal.list_end-days-requires
list_end-days-requires c =
    let a = c.args in (
      c.requires,
      made_narrows a.session (asked_on a.sheet) a.sheet.count c.cut_all-made.ensures.1 c.requires,
      (sheet_passed _ _ _ _ (none (goal.at.list_end-days-requires c).In_default)).2,
    )

pub returns : goal.returns
returns c =
    let a = c.args in
    let e = c.list_end-days.ensures in
    let whole = sheet_made a.session a.sheet a.room a.changed.now (none (goal.at.returns c).In_default) c.cut_all-made.ensures (e.value, e.changed_after) in
    record { value = whole.0; changed_after = whole.1 }
