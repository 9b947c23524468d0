-- `check_ranges` meets its contract: a law of Stages for each return.
use Rattle.session.proofs.Stages.{said_6, said_none, said_13}
use Rattle.session.proofs.check_ranges.Goals as goal

pub returns-then-crossed-numbers : goal.returns-then-crossed-numbers
returns-then-crossed-numbers c = let a = c.args in said_6 a.crossed a.numbers c.if-crossed-numbers.true

pub returns-then-numbers : goal.returns-then-numbers
returns-then-numbers c = let a = c.args in said_none a.crossed a.numbers c.if-crossed-numbers.false c.if-numbers.true

pub returns : goal.returns
returns c = let a = c.args in said_13 a.crossed a.numbers c.if-crossed-numbers.false c.if-numbers.false
