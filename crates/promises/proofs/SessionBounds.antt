-- Every session from opening and cuts has its numbers in bounds.
use mathlib.Core.List.{List, [], ◌∷◌}
use Rattle.session.specs.Opening.{opened}
use Rattle.session.specs.Showing.{SessionInBounds}
use Rattle.session.proofs.SessionBounds.{opened_in_bounds}
use Rattle.session.specs.declared.Session.{Session}
use Rattle.session_cutting.specs.Cutting.{after_numbered}
use Rattle.session_cutting.proofs.Laws.{numbered_in_bounds}
use Rattle.promises.specs.Cuts.{CutCall, after}
use Rattle.promises.specs.Demands.{SessionsInBounds}

follow : (s : Session) (hs : List CutCall) → SessionInBounds s → SessionInBounds (after s hs)
follow s [] b = b
follow s (h ∷ hs) b = follow (after_numbered s h.cut h.room).session hs (numbered_in_bounds s h.cut h.room b)

pub sessions_in_bounds : SessionsInBounds
sessions_in_bounds p hs = follow (opened p).session hs (opened_in_bounds p)
