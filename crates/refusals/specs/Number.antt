-- Document 01: the numbers of refusals.
use Rattle.std.specs.Prelude.{ℕ, Option, None, Some, Result, Ok, Err}
use Rattle.refusals.specs.declared.Refusal.{Refusal}
use Rattle.refusals.specs.declared.Refusal.TheVariants.{Count, Length, Point, Rise, Total, Crossed, Day, NoSchedule, Spent, OutOfRange, Layout, Kind, FirstDay, Answers}

abbrev pub refusal_number : Refusal → ℕ
refusal_number Count = 1
refusal_number Length = 2
refusal_number Point = 3
refusal_number Rise = 4
refusal_number Total = 5
refusal_number Crossed = 6
refusal_number Day = 7
refusal_number NoSchedule = 8
refusal_number Spent = 9
refusal_number OutOfRange = 10
refusal_number Layout = 11
refusal_number Kind = 12
refusal_number FirstDay = 13
refusal_number Answers = 14

-- 0 for none
abbrev pub number_or_zero : Option Refusal → ℕ
number_or_zero None = 0
number_or_zero (Some refusal) = refusal_number refusal

-- an answer's refusal by number, 0 for none
abbrev pub refusal_of : {A : Type 0} → Result A Refusal → ℕ
refusal_of (Ok a) = 0
refusal_of (Err refusal) = refusal_number refusal
