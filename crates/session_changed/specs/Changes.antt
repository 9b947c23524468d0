-- Document 01: the days that a cut changed; request Two: how many points the range of each lost.
use Rattle.std.specs.Prelude.{◌≡◌, ◌⊎◌, Bool, not, ◌||◌, List, ℕ, ◌-◌, ◌≤◌, ◌<◌, eqb}
use Rattle.limits.specs.Limits.{highest_level}
use Rattle.theory_lists.specs.Sum.{at}

-- the floor or the ceiling of day k is another than before
abbrev pub differs : List ℕ → List ℕ → List ℕ → List ℕ → ℕ → Bool
differs floors ceilings floors' ceilings' k = not (eqb (at floors k) (at floors' k)) || not (eqb (at ceilings k) (at ceilings' k))

-- the points that the range of day k lost: its width before less its width after
abbrev pub lost : List ℕ → List ℕ → List ℕ → List ℕ → ℕ → ℕ
lost floors ceilings floors' ceilings' k = (at ceilings k - at floors k) - (at ceilings' k - at floors' k)

-- the range of each day below n lies within the one before
pub record Narrowed (floors ceilings floors' ceilings' : List ℕ) (n : ℕ) : Type 0 where
  pub floor : (k : ℕ) → k < n → at floors k ≤ at floors' k
  pub some : (k : ℕ) → k < n → at floors' k ≤ at ceilings' k
  pub ceiling : (k : ℕ) → k < n → at ceilings' k ≤ at ceilings k
  pub most : (k : ℕ) → k < n → at ceilings k ≤ highest_level

-- the range of each day below n is the one before, or lies within it
pub record NarrowedOrSame (floors ceilings floors' ceilings' : List ℕ) (n : ℕ) : Type 0 where
  pub floor : (k : ℕ) → k < n → at floors k ≤ at floors' k
  pub some : (k : ℕ) → k < n → (at floors' k ≤ at ceilings' k) ⊎ ((at floors k ≡ at floors' k) × (at ceilings k ≡ at ceilings' k))
  pub ceiling : (k : ℕ) → k < n → at ceilings' k ≤ at ceilings k
  pub most : (k : ℕ) → k < n → at ceilings k ≤ highest_level
