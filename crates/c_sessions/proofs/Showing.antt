-- What showing by a session's bytes gives, by what its tests found.
use mathlib.Core.Path.{◌≡◌, refl, sym, ◌∙◌}
use mathlib.Core.List.{List}
use Prim.Native.Nat.{ℕ, ◌/◌, ◌≤◌, ◌<◌}
use native.Mathlib.Omega.{arith}
use lib.ListN.{length}
use borrow.Author.Tests.{eq-eqb, ne_eqb}
use Rattle.theory_lists.specs.Front.{in_front}
use Rattle.session.specs.Showing.{list_too_short, floor_on, ceiling_on, total_floor, total_ceiling, Shown}
use Rattle.session.proofs.Shows.{first_short, second_short, both_long}
use Rattle.c_lists.specs.Lists.{point_bytes, lent_points}
use Rattle.c_lists.proofs.Laws.{points_left, points_filled}
use Rattle.c_layout.specs.Layout.{session_bytes, decoding}
use Rattle.c_sessions.specs.Sessions.{shown_over}

module _ (b fs cs : List ℕ) where
  -- what is given, and both lists afterwards
  abbrev Shows : Shown → List ℕ → List ℕ → Type 0
  Shows r floors ceilings =
      (r ≡ shown_over b (length fs) (length cs))
      × ((floors ≡ lent_points r.refusal (floor_on (decoding b)) (decoding b).days fs)
      × (ceilings ≡ lent_points r.refusal (ceiling_on (decoding b)) (decoding b).days cs))

  left : list_too_short ≡ shown_over b (length fs) (length cs) → {r : Shown} → r ≡ list_too_short → Shows r fs cs
  left e h = rw h (e, (sym (points_left 2 _ _ fs (λ z. absurd (omega arith))), sym (points_left 2 _ _ cs (λ z. absurd (omega arith)))))

  pub show_unread : (length b ≡ session_bytes → ⊥) → {r : Shown} → r ≡ list_too_short → Shows r fs cs
  unfolding shown_over
  show_unread h = left (rw (ne_eqb (length b) session_bytes h) refl)

  module _ (h : length b ≡ session_bytes) where
    pub show_first : length fs / 2 < (decoding b).days → {r : Shown} → r ≡ list_too_short → Shows r fs cs
    unfolding shown_over
    show_first u = left (rw (eq-eqb (length b) session_bytes h) (first_short (decoding b) (length fs / 2) (length cs / 2) u))

    pub show_second : length cs / 2 < (decoding b).days → {r : Shown} → r ≡ list_too_short → Shows r fs cs
    unfolding shown_over
    show_second u = left (rw (eq-eqb (length b) session_bytes h) (second_short (decoding b) (length fs / 2) (length cs / 2) u))

    pub show_all : (decoding b).days ≤ length fs / 2 → (decoding b).days ≤ length cs / 2 → {r : Shown}
        → r ≡ record { refusal = 0; lowest = total_floor (decoding b); highest = total_ceiling (decoding b); spent = (decoding b).spent } → {floors ceilings : List ℕ}
        → floors ≡ in_front (point_bytes (floor_on (decoding b)) (decoding b).days) fs → ceilings ≡ in_front (point_bytes (ceiling_on (decoding b)) (decoding b).days) cs
        → Shows r floors ceilings
    unfolding shown_over
    show_all u v e p q =
        rw e (
          rw (eq-eqb (length b) session_bytes h) (both_long (decoding b) (length fs / 2) (length cs / 2) u v),
          (p ∙ sym (points_filled 0 _ _ fs refl), q ∙ sym (points_filled 0 _ _ cs refl)),
        )
