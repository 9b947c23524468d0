-- `put_answer` meets its contract: the number of changed days is stored behind the refusal.
use mathlib.Core.Path.{◌∙◌}
use Rattle.session_cutting.specs.Cutting.{answer_as}
use Rattle.session_cutting.proofs.Stages.{number-told, changed-told}
use Rattle.c_sheets.proofs.Laws.{answer_stored}
use Rattle.c_sheets.proofs.put_answer.Goals as goal

pub returns : goal.returns
returns c =
    let a = c.args in
    answer_stored (answer_as a.answer) a.out.now a.place (c.from.ensures ∙ c.number_of.ensures ∙ number-told a.answer) (c.unwrap_or-changed.ensures ∙ changed-told a.answer)
    c.put_u16.ensures c.put_u16-2.ensures
