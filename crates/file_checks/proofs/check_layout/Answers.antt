-- `check_layout` meets its contract: a law of Laws for each return, by the counts that are handed over (`Said`).
use mathlib.Core.Path.{◌∙◌}
use native.Mathlib.Omega.{arith}
use Rattle.file_checks.proofs.Laws.{Said, days_elsewhere, cuts_elsewhere, wrong_length, layout_taken}
use Rattle.file_checks.proofs.check_layout.Goals as goal
use Rattle.file_checks.proofs.check_layout.Goals.{Start}

said : (c : Start) → Said c.args.bytes.now c.args.days c.args.cuts
said c = record { days = c.requires.1; cuts = c.requires.2 }

pub returns-then-from-ne-DAYS_BEGIN : goal.returns-then-from-ne-DAYS_BEGIN
returns-then-from-ne-DAYS_BEGIN c = days_elsewhere _ (c.from.ensures ∙ c.u16_at.ensures) (λ z. omega arith)

pub returns-then-from : goal.returns-then-from
returns-then-from c = cuts_elsewhere _ (said (goal.at.returns-then-from c).Start) (c.from-2.ensures ∙ c.u16_at-2.ensures) (λ z. omega arith)

pub returns-then-bytes-from : goal.returns-then-bytes-from
returns-then-bytes-from c = wrong_length _ (said (goal.at.returns-then-bytes-from c).Start) (λ z. omega arith)

pub returns : goal.returns
returns c = layout_taken _ (said (goal.at.returns c).Start) (omega arith) (omega arith) (omega arith)
