-- A list with others at its front.
use Rattle.std.specs.Prelude.{ℕ, ◌+◌, ◌-◌, ◌≤◌, ◌<◌, ◌≡◌, List, ◌++◌, drop, get_or}
use Rattle.std.proofs.Common.{ap, ◌∙◌, length-append, length-drop, get_or-append-add, drop-drop}
use native.Mathlib.Omega.{arith}
use Rattle.std.proofs.Math.ListN.{length, get_or-append}
use Rattle.std.proofs.Math.Seq.{get_or-drop, drop-append-add}

-- a list with xs written at its front, and its rest as before
unfoldable pub in_front : {A : Type 0} → List A → List A → List A
in_front xs l = xs ++ drop (length xs) l

module _ {A : Type 0} (xs l : List A) (i : ℕ) (d : A) where
  pub front_at : i < length xs → get_or (in_front xs l) i d ≡ get_or xs i d
  unfolding in_front
  front_at h = get_or-append xs (drop (length xs) l) d i h

  pub front-past : length xs ≤ i → get_or (in_front xs l) i d ≡ get_or l i d
  unfolding in_front
  front-past h =
      let e : length xs + (i - length xs) ≡ i = omega arith in
      rw e at (get_or-append-add xs (drop (length xs) l) (i - length xs) d ∙ get_or-drop (length xs) l (i - length xs) d)

-- a longer list over a shorter one
pub front-over : {A : Type 0} (xs ys l : List A) → length xs ≤ length ys → in_front ys (in_front xs l) ≡ in_front ys l
unfolding in_front
front-over xs ys l h =
    let e : length xs + (length ys - length xs) ≡ length ys = omega arith in
    let d : drop (length ys) (xs ++ drop (length xs) l) ≡ drop (length ys) l =
    rw e at (drop-append-add xs (drop (length xs) l) (length ys - length xs) ∙ drop-drop (length ys - length xs) (length xs) l) in
    ap (λ r. ys ++ r) d

pub front_length : {A : Type 0} (xs l : List A) → length xs ≤ length l → length (in_front xs l) ≡ length l
unfolding in_front
front_length xs l h = omega (arith, length-append xs (drop (length xs) l), length-drop (length xs) l)
