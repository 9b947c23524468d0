-- `check_fields` meets its contract: a law of Laws for each return, by the last rise (`Risen`) and whether a cut is bad.
use Rattle.file_checks.proofs.Laws.{Risen, rise-left, cut_bad, fields_taken}
use Rattle.file_checks.proofs.check_fields.Goals as goal
use Rattle.file_checks.proofs.check_fields.Goals.{After-u16_at}

risen : (c : After-u16_at) → let a = c.args in Risen a.bytes.now a.days a.cuts c.u16_at.result
risen c =
    let pre = c.requires in
    record { said = record { days = pre.1; cuts = pre.2 }; some = pre.3; rise = rw c.day_offset-from.ensures at c.u16_at.ensures }

pub returns-then-u16_at-ne0 : goal.returns-then-u16_at-ne0
returns-then-u16_at-ne0 c = rise-left _ (risen (goal.at.returns-then-u16_at-ne0 c).After-u16_at) c.if-u16_at-ne0.true

pub returns-then-has_bad : goal.returns-then-has_bad
returns-then-has_bad c =
    cut_bad _ (risen (goal.at.returns-then-has_bad c).After-u16_at).said (rw c.day_offset-from.ensures at c.has_bad.ensures) c.if-has_bad.true

pub returns : goal.returns
returns c =
    fields_taken _ (risen (goal.at.returns c).After-u16_at) c.if-u16_at-ne0.false (rw c.day_offset-from.ensures at c.has_bad.ensures) c.if-has_bad.false
