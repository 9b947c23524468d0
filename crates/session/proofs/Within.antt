-- Levels within a session's ranges.
use mathlib.Core.List.{List}
use Prim.Native.Nat.{ℕ}
use Rattle.theory_method.specs.Levels.{Levels}
use Rattle.session.specs.Showing.{box_of}
use Rattle.session.specs.declared.Ranges.{Ranges}

-- n days' levels are within ranges, and keep the rises
abbrev pub Within : List ℕ → ℕ → ℕ → Ranges → (ℕ → ℕ) → Type 0
Within rs n first r = Levels (box_of rs n first r)
