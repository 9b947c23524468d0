-- Showing by what its tests found.
use mathlib.Core.Path.{◌≡◌, sym}
use mathlib.Core.Bool.{true, false, ◌||◌}
use mathlib.Core.List.{List}
use Prim.Native.Nat.{ℕ, ◌≤◌, ◌<◌}
use native.Mathlib.Omega.{arith}
use lib.IntN.{ℤ}
use mir.Syntax.{w32}
use mir.Val.{to_z, of_z}
use mir.Facts.{to_z-of_z}
use Rattle.limits.specs.Limits.{lowest_total}
use Rattle.base_codes.specs.Code.{decoded}
use Rattle.base_codes.proofs.Laws.{decoded_less, total_less}
use Rattle.base_codes.proofs.Casts.{less_fits}
use lib.Dec.{ltb}
use borrow.Author.Tests.{lt-ltb, le-ltb}
use Rattle.theory_lists.specs.Lent.{lent_list, list_left}
use Rattle.session.specs.Showing.{Shown, shown, list_too_short, total_floor, total_ceiling}
use Rattle.session.specs.declared.Session.{Session}
use Rattle.session.proofs.Entered.{or-true}

module _ (s : Session) (a b : ℕ) where
  pub first_short : a < s.days → list_too_short ≡ shown s a b
  unfolding shown
  first_short h = let e : ltb a s.days ≡ true = lt-ltb a s.days h in rw e

  pub second_short : b < s.days → list_too_short ≡ shown s a b
  unfolding shown
  second_short h = let e : (ltb a s.days || ltb b s.days) ≡ true = or-true (ltb a s.days) (ltb b s.days) (lt-ltb b s.days h) in rw e

  pub both_long : s.days ≤ a → s.days ≤ b → record { refusal = 0; lowest = total_floor s; highest = total_ceiling s; spent = s.spent } ≡ shown s a b
  unfolding shown
  both_long h l =
      let e : ltb a s.days ≡ false = le-ltb a s.days h in
      let f : ltb b s.days ≡ false = le-ltb b s.days l in
      rw (e, f)

-- both lists stay where either is too short
pub left : (f : ℕ → ℤ) (n : ℕ) (l : List ℤ) {r : Shown} → r ≡ list_too_short → l ≡ lent_list r.refusal f n l
left f n l e = rw e (sym (list_left 2 f n l (λ z. absurd (omega arith))))

-- a total that is shown, read back from its bits
pub total_seen : {z : ℤ} {t : ℕ} → z ≡ decoded lowest_total t → t ≤ 2560000 → to_z w32 (of_z w32 z) ≡ decoded lowest_total t
total_seen {z} {t} e h =
    rw e (to_z-of_z (less_fits w32 (decoded lowest_total t) t 512000 (decoded_less lowest_total t 512000 total_less) (omega arith) (omega arith)))
