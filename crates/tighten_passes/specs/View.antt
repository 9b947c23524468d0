-- Lists of n days read as they are, or from the other end of the days and of the scale, and what a pass over m of them takes.
use Rattle.std.specs.Prelude.{ℕ, ◌+◌, ◌-◌, ◌≤◌, ◌<◌, Bool, cond, List}
use Rattle.limits.specs.Limits.{most_days, highest_level, rise_offset, highest_rise_code}
use Rattle.theory_lists.specs.Sum.{at}
use Rattle.theory_lists.specs.Written.{written}
use Rattle.theory_method.specs.Filter.{reversed, zeros}
use Rattle.theory_method.specs.Stages.{Ready, Rising, mirrored_all}

abbrev pub viewed : Bool → List ℕ → ℕ → List ℕ
viewed back l n = cond back (mirrored_all l n) l

-- the rises between m of them
abbrev pub viewed_rises : Bool → List ℕ → ℕ → ℕ → List ℕ
viewed_rises back rs n m = cond back (written (reversed rs n) (m - 1) zeros) rs

-- n days of floors, carried forward
pub record Carried (fs rs : List ℕ) (n : ℕ) : Type 0 where
  pub most : n ≤ most_days
  pub floor : (k : ℕ) → k < n → at fs k ≤ highest_level
  pub rise : (k : ℕ) → k < n → at rs k ≤ highest_rise_code
  pub climb : (k : ℕ) → k + 1 < n → at fs k + at rs k ≤ at fs (k + 1) + rise_offset

-- levels of n days of which m, so viewed, are floors carried forward
pub record Sight (back : Bool) (fs rs : List ℕ) (n m : ℕ) : Type 0 where
  pub all : n ≤ most_days
  pub some : m ≤ n
  pub small : (k : ℕ) → k < n → at fs k ≤ highest_level
  pub carried : Carried (viewed back fs n) (viewed_rises back rs n m) m

-- what raising floors takes: days on which lowering could run, with the ceilings carried too
pub record FloorsReady (fs cs rs : List ℕ) (n : ℕ) : Type 0 where
  pub ready : Ready fs cs rs n
  pub rising : Rising cs rs n
