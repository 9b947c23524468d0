-- A session after a whole list of cuts: one list after another, and what the cuts keep.
use mathlib.Core.Path.{◌≡◌, refl, ap, ◌∙◌}
use mathlib.Core.List.{List, [], ◌∷◌, ◌++◌}
use Rattle.session.specs.Profile.{Profile}
use Rattle.session.specs.Opening.{opened}
use Rattle.session.specs.declared.Session.{Session}
use Rattle.session_cutting.specs.Cutting.{after_numbered}
use Rattle.session_cutting.proofs.Laws.{keeps}
use Rattle.promises.specs.Cuts.{CutCall, after}
use Rattle.promises.proofs.Demand2.{unrefused}

pub after_append : (s : Session) (xs ys : List CutCall) → after s (xs ++ ys) ≡ after (after s xs) ys
after_append s [] ys = refl
after_append s (h ∷ hs) ys = after_append (after_numbered s h.cut h.room).session hs ys

after-keeps : (s : Session) (hs : List CutCall) → (after s hs).days ≡ s.days
after-keeps s [] = refl
after-keeps s (h ∷ hs) = after-keeps (after_numbered s h.cut h.room).session hs ∙ (keeps s h.cut h.room).days

-- a session has as many days as the profile that it came from
pub after-days : (p : Profile) → (opened p).refusal ≡ 0 → (hs : List CutCall) → (after (opened p).session hs).days ≡ p.days
after-days p z hs = after-keeps (opened p).session hs ∙ ap (λ (s : Session). s.days) (unrefused p z).session
