-- What a refusal's number says of an answer.
use Rattle.std.specs.Prelude.{ℕ, ◌<◌, ◌≡◌, Result, Ok, Err}
use Rattle.std.proofs.Common.{arith, sym, ap, ◌∙◌}
use Rattle.refusals.specs.Number.{refusal_number, refusal_of}
use Rattle.refusals.specs.declared.Refusal.{Refusal}
use Rattle.refusals.specs.declared.Refusal.TheVariants.{Count, Length, Point, Rise, Total, Crossed, Day, NoSchedule, Spent, OutOfRange, Layout, Kind, FirstDay, Answers}

positive : (r : Refusal) → 0 < refusal_number r
positive Count = omega arith
positive Length = omega arith
positive Point = omega arith
positive Rise = omega arith
positive Total = omega arith
positive Crossed = omega arith
positive Day = omega arith
positive NoSchedule = omega arith
positive Spent = omega arith
positive OutOfRange = omega arith
positive Layout = omega arith
positive Kind = omega arith
positive FirstDay = omega arith
positive Answers = omega arith

pub refused : (r : Refusal) → refusal_number r ≡ 0 → ⊥
refused r e = absurd (omega (arith, positive r))

module _ {A : Type 0} {answer : Result A Refusal} {number : ℕ} (says : refusal_of answer ≡ number) where
  -- a refusal's number is that of the ladder, and not 0
  pub number_said : {r : Refusal} → answer ≡ Err r → refusal_number r ≡ number
  number_said e = rw e at says

  pub refusal-said : {r : Refusal} → answer ≡ Err r → number ≡ 0 → ⊥
  refusal-said {r} e z = refused r (number_said e ∙ z)

  -- the ladder is passed
  pub passed : {a : A} → answer ≡ Ok a → number ≡ 0
  passed e = sym (rw e at says)
