-- `check_lengths` meets its contract: a law of Lengths for each return. That the day count has passed is said once.
use Rattle.session.proofs.Lengths.{Counted, no_days, many_days, floors_wrong, ceilings_wrong, rises_wrong, lengths_right}
use native.Mathlib.Omega.{arith}
use Rattle.session.proofs.check_lengths.Goals as goal
use Rattle.session.proofs.check_lengths.Goals.{Else-days-gt-MOST_DAYS}

pub returns-then-days-eq0 : goal.returns-then-days-eq0
returns-then-days-eq0 c = no_days c.args.days _ c.if-days-eq0.true

pub returns-then-days-gt-MOST_DAYS : goal.returns-then-days-gt-MOST_DAYS
returns-then-days-gt-MOST_DAYS c = many_days c.args.days _ c.if-days-eq0.false (omega arith)

counted : (c : Else-days-gt-MOST_DAYS) → Counted c.args.days
counted c = record { some = c.if-days-eq0.false; few = c.if-days-gt-MOST_DAYS.false }

pub returns-then-floors-days : goal.returns-then-floors-days
returns-then-floors-days c =
    let a = c.args in
    floors_wrong a.days a.floors a.ceilings a.rises (counted (goal.at.returns-then-floors-days c).Else-days-gt-MOST_DAYS) c.if-floors-days.true

pub returns-then-ceilings-days : goal.returns-then-ceilings-days
returns-then-ceilings-days c =
    let a = c.args in
    ceilings_wrong a.days a.floors a.ceilings a.rises (counted (goal.at.returns-then-ceilings-days c).Else-days-gt-MOST_DAYS) c.if-floors-days.false c.if-ceilings-days.true

pub returns-then-rises-days : goal.returns-then-rises-days
returns-then-rises-days c =
    let a = c.args in
    rises_wrong a.days a.floors a.ceilings a.rises (counted (goal.at.returns-then-rises-days c).Else-days-gt-MOST_DAYS) c.if-floors-days.false c.if-ceilings-days.false c.if-rises-days.true

pub returns : goal.returns
returns c =
    let a = c.args in
    lengths_right a.days a.floors a.ceilings a.rises (counted (goal.at.returns c).Else-days-gt-MOST_DAYS) c.if-floors-days.false c.if-ceilings-days.false c.if-rises-days.false
