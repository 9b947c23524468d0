-- The list of a function's values.
use Rattle.std.specs.Prelude.{◌≡◌, refl, List, [], ◌∷◌, ℕ, zero, suc, ◌≤◌, ◌<◌, length, get_or, take}
use Rattle.std.proofs.Common.{ap, sym, ◌∙◌, arith, ext_get_or, length-take-le, get_or-take}
use Rattle.theory_lists.specs.Written.{written, length-written, written_below}

-- the list of f 0, f 1, .. , n of them
unfoldable pub list_of : {A : Type 0} → (ℕ → A) → ℕ → List A
list_of f zero = []
list_of f (suc n) = f 0 ∷ list_of (λ k. f (suc k)) n

pub length-list_of : {A : Type 0} (f : ℕ → A) (n : ℕ) → length (list_of f n) ≡ n
unfolding list_of
length-list_of f zero = refl
length-list_of f (suc n) = ap suc (length-list_of (λ k. f (suc k)) n)

pub get_list_of : {A : Type 0} (f : ℕ → A) (d : A) (n k : ℕ) → k < n → get_or (list_of f n) k d ≡ f k
unfolding list_of
get_list_of f d zero k h = absurd (omega arith)
get_list_of f d (suc n) zero h = refl
get_list_of f d (suc n) (suc k) h = get_list_of (λ j. f (suc j)) d n k (omega arith)

-- a list is that of its elements
pub list_of-all : {A : Type 0} (f : ℕ → A) (d : A) (n : ℕ) (l : List A) → length l ≡ n → ((k : ℕ) → k < n → f k ≡ get_or l k d) → list_of f n ≡ l
list_of-all f d n l e h =
    ext_get_or d (list_of f n) l (length-list_of f n ∙ sym e)
    (λ k u. let v : k < n = rw (length-list_of f n) at u in get_list_of f d n k v ∙ h k v)

pub take-written : {A : Type 0} (f : ℕ → A) (n : ℕ) (l : List A) → n ≤ length l → take n (written f n l) ≡ list_of f n
take-written f n l h =
    sym (list_of-all f (f 0) n (take n (written f n l)) (length-take-le n (written f n l) (omega (arith, length-written f n l)))
    (λ k u. sym (get_or-take n (written f n l) k (f 0) u ∙ written_below f (f 0) n l k u h)))

pub list_of-same : {A : Type 0} (f g : ℕ → A) (n : ℕ) → ((k : ℕ) → k < n → f k ≡ g k) → list_of f n ≡ list_of g n
unfolding list_of
list_of-same f g zero h = refl
list_of-same f g (suc n) h = rw (h 0 (omega arith), list_of-same (λ k. f (suc k)) (λ k. g (suc k)) n (λ k l. h (suc k) (omega arith))) refl
