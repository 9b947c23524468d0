-- What the functions of a pass hand on, over n days of floors and rise codes, all of which count. Levels are shifted.
use Rattle.std.specs.Prelude.{ℕ, ◌+◌, ◌-◌, ◌*◌, ◌≤◌, ◌<◌, min, ◌≡◌, List}
use Rattle.limits.specs.Limits.{most_days, highest_level, highest_shift, highest_held}
use Rattle.theory_lists.specs.Sum.{sum_for, at}
use Rattle.theory_chains.specs.Sum.{all}
use Rattle.theory_chains.specs.Fit.{Fitted}
use Rattle.theory_method.specs.Shift.{shift}
use Rattle.theory_method.specs.Filter.{shifted}
use Rattle.tighten_passes.specs.Round.{over, window, rounded}

-- no shifted level is above this, and no margin with the levels of all days above the next: 32 bits hold both
abbrev pub highest_shifted : ℕ
highest_shifted = highest_shift + highest_level

abbrev pub highest_room : ℕ
highest_room = highest_held + most_days * highest_shifted

-- the c days from day i on, which end before `past`: the margin plus the sum of their floors, the floor of the last and its shift
pub record Span (fs rs : List ℕ) (n i margin past c room top e : ℕ) : Type 0 where
  pub ends : past ≡ i + c
  pub inside : past ≤ n
  pub total : room ≡ margin + sum_for (shifted fs rs n) i c
  pub high : top ≡ shifted fs rs n (past - 1)
  pub last : e ≡ shift (at rs) n (past - 1)

-- such days, at least day i, and each past them at v or above
pub record Open (fs rs : List ℕ) (n i margin v past c room top e : ℕ) : Type 0 where
  pub span : Span fs rs n i margin past c room top e
  pub some : 0 < c
  pub beyond : (k : ℕ) → past ≤ k → k < n → v ≤ shifted fs rs n k

-- such days whose last is not below v, and is not day i
pub record Sticking (fs rs : List ℕ) (n i margin v past c room top e : ℕ) : Type 0 where
  pub window : Open fs rs n i margin v past c room top e
  pub high : v ≤ top
  pub more : i + 1 < past

-- the days from day i to *last*
pub record Found (fs rs : List ℕ) (n i margin v past c room top e : ℕ) : Type 0 where
  pub span : Span fs rs n i margin past c room top e
  pub found : c ≡ window (shifted fs rs n) n i v

-- a level v of day i that is over the margin, and its days
pub record Overloaded (fs rs : List ℕ) (n i margin v past c room top e : ℕ) : Type 0 where
  pub window : Found fs rs n i margin v past c room top e
  pub base : shifted fs rs n i ≤ v
  pub more : room < c * v

-- what a round leaves of v: the level u and its days
pub record Rounded (fs rs : List ℕ) (n i margin v u past c room top e : ℕ) : Type 0 where
  pub level : u ≡ rounded all (shifted fs rs n) n i margin v
  pub window : Found fs rs n i margin u past c room top e

-- what the rounds leave: the greatest level up to cap within the margin, and its days
pub record Lowest (fs rs : List ℕ) (n i margin cap u past c room top e : ℕ) : Type 0 where
  pub level : Fitted (over all (shifted fs rs n) n i) margin (shifted fs rs n i) cap u
  pub window : Found fs rs n i margin u past c room top e

-- what is handed on to day i, with the next day at v: the window of the next day and day i itself
pub record Entering (fs rs : List ℕ) (n i margin ceiling floor v past c room top e : ℕ) : Type 0 where
  pub window : Open fs rs n i margin (min v ceiling) past (c + 1) (room + floor) top e
  pub low : min v ceiling ≤ highest_shifted
  pub base : shifted fs rs n i ≤ min v ceiling
  pub small : room + floor ≤ highest_room
