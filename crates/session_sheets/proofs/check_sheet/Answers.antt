-- `check_sheet` meets its contract: each return knows what the checks before it found.
use Rattle.session_sheets.proofs.Laws.{sheet_long, sheet_unanswered, sheet_unlisted, sheet_taken}
use Rattle.session_sheets.proofs.check_sheet.Goals as goal

pub returns-then-cuts-gt-MOST_CUTS : goal.returns-then-cuts-gt-MOST_CUTS
returns-then-cuts-gt-MOST_CUTS c = sheet_long _ _ _ _ c.if-cuts-gt-MOST_CUTS.true

pub returns-then-answers-cuts : goal.returns-then-answers-cuts
returns-then-answers-cuts c = sheet_unanswered _ _ _ _ c.if-cuts-gt-MOST_CUTS.false c.if-answers-cuts.true

pub returns-then-changed-days : goal.returns-then-changed-days
returns-then-changed-days c = sheet_unlisted _ _ _ _ c.if-cuts-gt-MOST_CUTS.false c.if-answers-cuts.false c.if-changed-days.true

pub returns : goal.returns
returns c = sheet_taken _ _ _ _ c.if-cuts-gt-MOST_CUTS.false c.if-answers-cuts.false c.if-changed-days.false
