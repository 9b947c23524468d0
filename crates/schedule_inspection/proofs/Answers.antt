-- An answer is told by its numbers: no two answers have the same.
use mathlib.Core.Path.{◌≡◌, refl, sym, ap, ◌∙◌}
use Rattle.std.specs.Prelude.{ℕ, ◌-◌, cond, eqb, List, [], ◌∷◌, get_or, Result, Ok, Err}
use Rattle.refusals.specs.declared.Refusal.{Refusal}
use Rattle.refusals.specs.declared.Refusal.TheVariants.{Count, Length, Point, Rise, Total, Crossed, Day, NoSchedule, Spent, OutOfRange, Layout, Kind, FirstDay, Answers}
use Rattle.schedule_inspection.specs.declared.Finding as Code
use Rattle.schedule_inspection.specs.declared.Finding.TheVariants.{Kept, BrokenDay, BrokenRise, BrokenTotal}
use Rattle.schedule_inspection.specs.Inspecting.{Finding, finding, FindingOne}

abbrev refusals : List Refusal
refusals = Count ∷ Length ∷ Point ∷ Rise ∷ Total ∷ Crossed ∷ Day ∷ NoSchedule ∷ Spent ∷ OutOfRange ∷ Layout ∷ Kind ∷ FirstDay ∷ Answers ∷ []

abbrev finding_by : ℕ → ℕ → Code.Finding
finding_by rule place = get_or (Kept ∷ BrokenDay place ∷ BrokenRise place ∷ BrokenTotal ∷ []) rule Kept

abbrev answer : Finding → Result Code.Finding Refusal
answer f = cond (eqb f.refusal 0) (Ok (finding_by f.rule f.place)) (Err (get_or refusals (f.refusal - 1) Count))

answer_back : (a : Result Code.Finding Refusal) → answer (finding a) ≡ a
answer_back (Ok Kept) = refl
answer_back (Ok (BrokenDay day)) = refl
answer_back (Ok (BrokenRise rise)) = refl
answer_back (Ok BrokenTotal) = refl
answer_back (Err Count) = refl
answer_back (Err Length) = refl
answer_back (Err Point) = refl
answer_back (Err Rise) = refl
answer_back (Err Total) = refl
answer_back (Err Crossed) = refl
answer_back (Err Day) = refl
answer_back (Err NoSchedule) = refl
answer_back (Err Spent) = refl
answer_back (Err OutOfRange) = refl
answer_back (Err Layout) = refl
answer_back (Err Kind) = refl
answer_back (Err FirstDay) = refl
answer_back (Err Answers) = refl

pub finding-one : FindingOne
finding-one a b e = sym (answer_back a) ∙ ap answer e ∙ answer_back b
