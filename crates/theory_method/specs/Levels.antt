-- Days' levels that keep to floors, ceilings, rises and a total; shifted, they are a schedule of `chains` in which every least rise is 0.
use Rattle.std.specs.Prelude.{ℕ, ◌+◌, ◌-◌, ◌≤◌, ◌<◌, List}
use Rattle.limits.specs.Limits.{rise_offset}
use Rattle.theory_lists.specs.Sum.{at}
use Rattle.theory_chains.specs.Sum.{sum}
use Rattle.theory_method.specs.Shift.{shift}
use Rattle.theory_method.specs.Counted.{counted}
use Rattle.theory_method.specs.Filter.{Box, spare, held}

-- n days' levels x within the bounds: what `tightened` is about
pub record Levels (b : Box) (x : ℕ → ℕ) : Type 0 where
  pub floor : (k : ℕ) → k < b.days → at b.floors k ≤ x k
  pub ceiling : (k : ℕ) → k < b.days → x k ≤ at b.ceilings k
  pub rise : (k : ℕ) → k + 1 < b.days → x k + at b.rises k ≤ x (k + 1) + rise_offset
  pub least : b.lowest ≤ held b.days b.first x
  pub most : held b.days b.first x ≤ b.highest

-- a held total as the total of the shifted levels
abbrev pub shifted_total : List ℕ → ℕ → ℕ → ℕ → ℕ
shifted_total rs n first t = t + sum (counted first n) n (shift (at rs) n) - spare n first
