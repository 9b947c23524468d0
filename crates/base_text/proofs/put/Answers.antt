-- `put` meets its contract: what std's copy leaves is the text stored at its place (`pasted` of Rows).
use native.Mathlib.Omega.{arith}
use Rattle.theory_lists.specs.Rows.{pasted}
use Rattle.base_text.proofs.put.Goals as goal

pub returns-clause-out_after : goal.returns-clause-out_after
returns-clause-out_after c =
    pasted _ _ c.copy_from_slice.ensures.after (omega arith) (omega (arith, c.requires))
