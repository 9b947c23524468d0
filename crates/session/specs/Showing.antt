-- Document 01: showing the ranges of a session.
use Rattle.std.specs.Prelude.{Bool, false, cond, ◌||◌, List, Result, Ok, Err, ℕ, ℤ, pos, ltb}
use Rattle.limits.specs.Limits.{lowest_point, lowest_rise, lowest_total}
use Rattle.theory_lists.specs.Sum.{at}
use Rattle.base_codes.specs.Code.{decoded}
use Rattle.theory_method.specs.Filter.{Box, box, InBounds}
use Rattle.session.specs.declared.Ranges.{Ranges}
use Rattle.session.specs.declared.Session.{Session}
use Rattle.session.specs.declared.Shown as Code
use Rattle.refusals.specs.declared.Refusal.{Refusal}
use Rattle.refusals.specs.Number.{refusal_number}

-- the present range of day i, and of the total, in points
abbrev pub floor_on : Session → ℕ → ℤ
floor_on s i = decoded lowest_point (at s.present.floors i)

abbrev pub ceiling_on : Session → ℕ → ℤ
ceiling_on s i = decoded lowest_point (at s.present.ceilings i)

abbrev pub total_floor : Session → ℤ
total_floor s = decoded lowest_total s.present.lowest

abbrev pub total_ceiling : Session → ℤ
total_ceiling s = decoded lowest_total s.present.highest

-- the least rise from day i to the next, in points
abbrev pub rise_on : Session → ℕ → ℤ
rise_on s i = decoded lowest_rise (at s.rises i)

-- what showing gives: the refusal's number, 0 for none, the total's range, and whether the session is spent
pub record Shown : Type 0 where
  pub refusal : ℕ
  pub lowest : ℤ
  pub highest : ℤ
  pub spent : Bool

abbrev pub not_shown : ℕ → Shown
not_shown number = record { refusal = number; lowest = pos 0; highest = pos 0; spent = false }

abbrev pub shown_as : Result Code.Shown Refusal → Shown
shown_as (Ok s) = record { refusal = 0; lowest = s.lowest; highest = s.highest; spent = s.spent }
shown_as (Err refusal) = not_shown (refusal_number refusal)

-- 2: a list shorter than n
abbrev pub list_too_short : Shown
list_too_short = not_shown 2

-- what showing gives with lists of these lengths
unfoldable pub shown : Session → ℕ → ℕ → Shown
shown s floors ceilings =
    cond (ltb floors s.days || ltb ceilings s.days) list_too_short
    (record { refusal = 0; lowest = total_floor s; highest = total_ceiling s; spent = s.spent })

-- ranges of n days, with the rises between them and the first counted day, as what tightening takes
abbrev pub box_of : List ℕ → ℕ → ℕ → Ranges → Box
box_of rs n first r = box r.floors r.ceilings rs n first r.lowest r.highest

-- ranges of n days are in bounds, with the rises between the days and the first counted day
abbrev pub Fits : List ℕ → ℕ → ℕ → Ranges → Type 0
Fits rs n first r = InBounds (box_of rs n first r)

-- the numbers of a session are in bounds
pub record SessionInBounds (s : Session) : Type 0 where
  pub opened : Fits s.rises s.days s.first s.opened
  pub present : Fits s.rises s.days s.first s.present
