-- `cut_listed` meets its contract: the cut is read from the list, made (`Stepped`), and its answer stored.
use native.Mathlib.Omega.{arith}
use Rattle.c_sheets.proofs.Laws.{stepped_few, stepped_same}
use Rattle.c_sheets.proofs.cut_listed.Goals as goal

pub put_answer-requires : goal.put_answer-requires
put_answer-requires c =
    let h = c.requires.0 in
    (stepped_few _ h.bounds (c.cut_next-next.ensures h.session h.bounds h.holds), omega (arith, c.requires.1.answered))

pub returns : goal.returns
returns c = record { stepped = stepped_same c.numbered_at-asked.ensures c.cut_next-next.ensures; answers_after = c.put_answer.ensures }
