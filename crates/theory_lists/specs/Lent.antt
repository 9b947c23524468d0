-- A lent list by the refusal: as it was, or with f on its first n places.
use Rattle.std.specs.Prelude.{◌≡◌, cond, List, ℕ, eqb}
use Rattle.std.proofs.Math.Path.{refl}
use Rattle.std.proofs.Common.{eq-eqb, ne_eqb}
use Rattle.theory_lists.specs.Written.{written}

unfoldable pub lent_list : {A : Type 0} → ℕ → (ℕ → A) → ℕ → List A → List A
lent_list refusal f n l = cond (eqb refusal 0) (written f n l) l

module _ {A : Type 0} (refusal : ℕ) (f : ℕ → A) (n : ℕ) (l : List A) where
  pub list_left : (refusal ≡ 0 → ⊥) → lent_list refusal f n l ≡ l
  unfolding lent_list
  list_left h = rw (ne_eqb refusal 0 h) refl

  pub list-filled : refusal ≡ 0 → lent_list refusal f n l ≡ written f n l
  unfolding lent_list
  list-filled z = rw (eq-eqb refusal 0 z) refl
