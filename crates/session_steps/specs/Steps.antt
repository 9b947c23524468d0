-- A session in lent arrays, while cuts are made of it one after another.
use Rattle.std.specs.Prelude.{◌≡◌, false, List, ℕ, ◌-◌, ◌<◌, length}
use Rattle.limits.specs.Limits.{most_days}
use Rattle.theory_lists.specs.Sum.{at}
use Rattle.session.specs.Showing.{SessionInBounds}
use Rattle.session.specs.declared.Session.{Session}
use Rattle.session_cutting.specs.Cutting.{AfterCut, answer_as}
use Rattle.session_steps.specs.declared.Step.{Step}

-- the width of day k's range
abbrev pub width : List ℕ → List ℕ → ℕ → ℕ
width floors ceilings k = at ceilings k - at floors k

-- the numbers, and arrays for rises, floors, ceilings and widths, hold session s; of a spent one the ranges are not held
pub record Holds (s : Session) (p : Step) (rises floors ceilings widths : List ℕ) : Type 0 where
  pub days : p.numbers.days ≡ s.days
  pub first : p.numbers.first ≡ s.first
  pub rises-held : rises ≡ s.rises
  pub mark : p.spent ≡ s.spent
  pub present : s.spent ≡ false → record { floors = floors; ceilings = ceilings; lowest = p.numbers.lowest; highest = p.numbers.highest } ≡ s.present
  pub wide : length widths ≡ most_days
  pub widths_held : s.spent ≡ false → (k : ℕ) → k < s.days → at widths k ≡ width floors ceilings k

-- they hold some session whose numbers are in bounds
pub record Holding (p : Step) (rises floors ceilings widths : List ℕ) : Type 0 where
  pub session : Session
  pub bounds : SessionInBounds session
  pub holds : Holds session p rises floors ceilings widths

-- they hold the session that a cut gave, and its answer
pub record Stepped (a : AfterCut) (p : Step) (rises floors ceilings widths : List ℕ) : Type 0 where
  pub answer : answer_as p.answer ≡ a.answer
  pub holds : Holds a.session p rises floors ceilings widths
