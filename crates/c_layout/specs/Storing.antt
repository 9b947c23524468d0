-- What is kept by a session's bytes, as statements.
use Rattle.std.specs.Prelude.{◌≡◌, List, Bool, ℕ, ◌≤◌, ◌<◌}
use Rattle.limits.specs.Limits.{most_days}
use Rattle.theory_lists.specs.Sum.{at}
use Rattle.session.specs.Showing.{SessionInBounds}
use Rattle.session.specs.declared.Ranges.{Ranges}
use Rattle.session.specs.declared.Session.{Session}
use Rattle.c_layout.specs.Layout.{encoding, decoding, patched}

-- whatever the bytes, the session's numbers are in bounds
abbrev pub DecodingInBounds : Type 0
DecodingInBounds = (b : List ℕ) → SessionInBounds (decoding b)

-- cells past the last day are 0
abbrev pub Padded : ℕ → List ℕ → Type 0
Padded n cells = (k : ℕ) → n ≤ k → k < most_days → at cells k ≡ 0

-- a session that encoding keeps: its numbers are in bounds, and past the last day stands 0
pub record Storable (s : Session) : Type 0 where
  pub bounds : SessionInBounds s
  pub rises : Padded s.days s.rises
  pub opened : Padded s.days s.opened.floors × Padded s.days s.opened.ceilings
  pub present : Padded s.days s.present.floors × Padded s.days s.present.ceilings

-- what was encoded is decoded
abbrev pub DecodingEncoding : Type 0
DecodingEncoding = (s : Session) → Storable s → decoding (encoding s) ≡ s

-- the patch of other present ranges on what was encoded is the encoding of the session that has them
abbrev pub PatchedEncoding : Type 0
PatchedEncoding =
    (s : Session) → Storable s → (spent : Bool) (r : Ranges)
    → patched (encoding s) s.days spent r ≡ encoding (record { days = s.days; first = s.first; rises = s.rises; opened = s.opened; present = r; spent = spent })
