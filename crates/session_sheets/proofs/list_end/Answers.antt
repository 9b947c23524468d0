-- `list_end` meets its contract: a spent session has no days to list; else each range at the end lies within the one at the start, as `list_differences` asks.
use Rattle.session_sheets.proofs.Laws.{list-none, list-some}
use Rattle.session_sheets.proofs.list_end.Goals as goal

pub returns-then-end : goal.returns-then-end
returns-then-end c = let a = c.args in let whole = list-none a.start a.end a.changed.now c.if-end.true in record { value = whole.0; changed_after = whole.1 }

pub list_differences-requires : goal.list_differences-requires
list_differences-requires c =
    let p = c.requires in
    (p.0.present.most, p.2, p.1 c.if-end.false)

pub returns : goal.returns
returns c =
    let a = c.args in let whole = list-some a.start a.end a.changed.now c.if-end.false (c.list_differences.ensures.value, c.list_differences.ensures.changed_after) in record { value = whole.0; changed_after = whole.1 }
