-- A cut on the encoding of a session: the patch is the encoding of what the cut makes of the session.
use Rattle.std.specs.Prelude.{Option}
use mathlib.Core.Path.{◌≡◌, refl, ap, sym}
use mathlib.Core.Bool.{Bool, true, false, cond, ◌||◌}
use Prim.Native.Nat.{ℕ, ◌/◌}
use lib.Dec.{eqb}
use lib.ListN.{length}
use borrow.Author.Tests.{eq-eqb, eqb-false}
use Rattle.session.specs.declared.Session.{Session}
use Rattle.session_cutting.specs.Cutting.{after_numbered, AfterCut}
use Rattle.session_cutting.proofs.Laws.{keeps}
use Rattle.c_layout.specs.Layout.{session_bytes, encoding, patched}
use Rattle.c_layout.specs.Storing.{Storable}
use Rattle.c_layout.proofs.Lengths.{encoding-length}
use Rattle.c_layout.proofs.Inverse.{decoding-encoding}
use Rattle.c_layout.proofs.Patching.{patched-kept}
use Rattle.c_sessions.specs.Sessions.{is_session, bytes_for, bytes_cut}
use Rattle.session_cuts.specs.declared.Cut.{Cut}

pub encoded : (s : Session) → Storable s → is_session (encoding s) ≡ true
encoded s h = eq-eqb (length (encoding s)) session_bytes (encoding-length s h.bounds.opened.most)

-- ---- a cut on the encoding

module _ (s : Session) (h : Storable s) (t : Option Cut) (room : ℕ) where
  abbrev a : AfterCut
  a = after_numbered s t room

  patch : patched (encoding s) a.session.days a.session.spent a.session.present ≡ encoding a.session
  patch = let k = keeps s t room in patched-kept s a.session h k.days k.first k.rises k.opened

  stored : bytes_for (encoding s) a ≡ encoding a.session
  unfolding bytes_for
  stored = go (eqb a.answer.refusal 0) (eqb a.answer.refusal 8) refl refl
    where
      go : (x y : Bool) → eqb a.answer.refusal 0 ≡ x → eqb a.answer.refusal 8 ≡ y
          → cond (x || y) (patched (encoding s) a.session.days a.session.spent a.session.present) (encoding s) ≡ encoding a.session
      go true y e f = patch
      go false true e f = patch
      go false false e f = ap encoding (sym ((keeps s t room).left (eqb-false a.answer.refusal 0 e) (eqb-false a.answer.refusal 8 f)))

pub cut_encoded : (s : Session) → Storable s → (t : Option Cut) (list : ℕ) → bytes_cut (encoding s) t list ≡ encoding (after_numbered s t (list / 2)).session
unfolding bytes_cut
cut_encoded s h t list = rw (encoded s h, decoding-encoding s h) (stored s h t (list / 2))
