-- 8 at a cut, exactly.
use Rattle.std.specs.Prelude.{None, Option, Some}
use mathlib.Core.Path.{◌≡◌, refl, sym, ap, ◌∙◌}
use mathlib.Core.Bool.{Bool, true, false}
use mathlib.Core.Logic.{◌↔◌}
use mathlib.Core.List.{[], ◌∷◌, ◌++◌}
use Prim.Native.Nat.{ℕ}
use native.Mathlib.Omega.{arith}
use lib.Dec.{eqb}
use lib.ListN.{replicate, length-replicate}
use borrow.Author.Tests.{eqb-true, eq-eqb}
use Rattle.session.specs.Opening.{opened}
use Rattle.session.specs.declared.Session.{Session}
use Rattle.session_cutting.specs.Cutting.{early_cutting, early_numbered, after_numbered}
use Rattle.session_cutting.proofs.Laws.{passed, refused-same}
use Rattle.promises.specs.Cuts.{after}
use Rattle.promises.specs.Demands.{NoneAtCut}
use Rattle.promises.proofs.Demand1.{earlier_never_8, demand_1}
use Rattle.promises.proofs.Demand3.{demand_3}
use Rattle.promises.proofs.After.{after_append}
use Rattle.session_cuts.specs.declared.Cut.{Cut}

-- 8 is said where an unspent session becomes spent
eight_spends : (s : Session) (t : Option Cut) (room : ℕ)
    → ((after_numbered s t room).answer.refusal ≡ 8) ↔ (s.spent ≡ false) × ((after_numbered s t room).session.spent ≡ true)
eight_spends s t room = rw (length-replicate {A = ℕ} room 0) at (demand_1.refused s t (replicate room 0)).eight

none_before : (s : Session) (t : Option Cut) (room : ℕ) → (after_numbered s t room).answer.refusal ≡ 8 → early_numbered s t room ≡ 0
unfolding after_numbered
none_before s None room h = absurd (omega arith)
none_before s (Some c) room h = go (eqb (early_cutting s c room) 0) refl
  where
    go : (b : Bool) → eqb (early_cutting s c room) 0 ≡ b → early_cutting s c room ≡ 0
    go true e = eqb-true (early_cutting s c room) 0 e
    go false e = absurd (earlier_never_8 s c room (rw (refused-same s c room e) at h))

unspent : (s : Session) (t : Option Cut) (room : ℕ) → early_numbered s t room ≡ 0 → s.spent ≡ false
unspent s None room e = absurd (omega arith)
unspent s (Some c) room e = (passed s c room (eq-eqb (early_cutting s c room) 0 e)).unspent

pub none_at_cut : NoneAtCut
none_at_cut p z hs s e h =
    let t = h.cut in
    let room = h.room in
    let session : after (opened p).session (hs ++ h ∷ []) ≡ (after_numbered s t room).session = rw e (after_append (opened p).session hs (h ∷ [])) in
    let more = ap (λ (q : Session). q.spent) session in
    let list = (demand_3 p z (hs ++ h ∷ [])).spent in
    let eight = eight_spends s t room in (
      λ k. (none_before s t room k, list.0 (more ∙ (eight.0 k).1)),
      λ w. eight.1 (unspent s t room w.0, sym more ∙ list.1 w.1),
    )
