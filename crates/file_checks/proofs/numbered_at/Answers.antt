-- `numbered_at` meets its contract: the kind, the day and the value are the fields that the calls read, and `numbered` is told them.
use Rattle.std.specs.Prelude.{Option}
use Prim.Native.Nat.{ℕ}
use mathlib.Core.Path.{◌≡◌, ◌∙◌}
use lib.IntN.{ℤ}
use mir.Syntax.{w32}
use mir.Facts.{to_z-of_z}
use borrow.Author.Rules.{sfits_of}
use Rattle.session_cuts.specs.Numbered.{numbered}
use Rattle.file_checks.proofs.numbered_at.Goals as goal
use Rattle.session_cuts.specs.declared.Cut.{Cut}

numbered_as : {t : Option Cut} {k k' d d' : ℕ} {v v' : ℤ} → k ≡ k' → d ≡ d' → v ≡ v' → t ≡ numbered k d v → t ≡ numbered k' d' v'
numbered_as ek ed ev p = p ∙ (λ i. numbered (ek i) (ed i) (ev i))

pub returns : goal.returns
returns c =
    numbered_as (c.from-kind.ensures ∙ c.u16_at.ensures) (c.from-day.ensures ∙ c.u16_at-2.ensures)
    (to_z-of_z {w = w32} (sfits_of c.i32_at-value.type_inv) ∙ c.i32_at-value.ensures) c.numbered.ensures
