-- `check_counts` meets its contract: a law of Laws for each return.
use native.Mathlib.Omega.{arith}
use Rattle.file_checks.proofs.Laws.{no_days, many_days, many_cuts, counts-taken}
use Rattle.file_checks.proofs.check_counts.Goals as goal

pub returns-then-days-eq0 : goal.returns-then-days-eq0
returns-then-days-eq0 c = no_days c.args.days c.args.cuts c.if-days-eq0.true

pub returns-then-days-gt-MOST_DAYS : goal.returns-then-days-gt-MOST_DAYS
returns-then-days-gt-MOST_DAYS c = many_days c.args.days c.args.cuts (omega arith)

pub returns-then-cuts-gt-MOST_CUTS : goal.returns-then-cuts-gt-MOST_CUTS
returns-then-cuts-gt-MOST_CUTS c = many_cuts c.args.days c.args.cuts (omega arith)

pub returns : goal.returns
returns c = counts-taken c.args.days c.args.cuts (λ z. omega arith) (omega arith) (omega arith)
