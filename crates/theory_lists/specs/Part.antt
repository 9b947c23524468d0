-- The part of a list that begins at a place.
use Prim.Native.Nat.{ℕ, zero, suc, ◌+◌, ◌-◌, ◌*◌, ◌≤◌, ◌<◌}
use Rattle.std.specs.Prelude.{◌≡◌, refl, List, [], ◌∷◌, ◌++◌, drop, set}
use Rattle.std.proofs.Common.{sym, ap, ◌∙◌, arith, length-set, length-append, get_or-set_same, get_or-set_other, get_or-append-add, ext_get_or}
use Rattle.std.proofs.Math.Decide.{dec_lt}
use Rattle.std.proofs.Math.ListN.{length, get_or-append}
use Rattle.std.proofs.lemmas.List.Edits.{sets}
use Rattle.std.proofs.lemmas.List.{set-get_or, set_comm}
use Rattle.theory_lists.specs.Sum.{at}
use Rattle.theory_lists.specs.Front.{in_front}
use Rattle.theory_lists.specs.Rows.{rows, length-rows}

-- from place i on, l has the elements of xs
pub record Part (l : List ℕ) (i : ℕ) (xs : List ℕ) : Type 0 where
  pub has : (j : ℕ) → j < length xs → at l (i + j) ≡ at xs j

module _ {l : List ℕ} {i w : ℕ} (xs ys : List ℕ) (e : length xs ≡ w) where
  pub part_left : Part l i (xs ++ ys) → Part l i xs
  part_left p = record { has = λ j h. p.has j (omega (arith, length-append xs ys)) ∙ get_or-append xs ys 0 j h }

  pub part_right : Part l i (xs ++ ys) → Part l (i + w) ys
  part_right p =
      record {
        has = λ j h.
            let q : i + (length xs + j) ≡ i + w + j = omega arith in
            rw q at (p.has (length xs + j) (omega (arith, length-append xs ys)) ∙ get_or-append-add xs ys j 0);
      }

  pub part_both : Part l i xs → Part l (i + w) ys → Part l i (xs ++ ys)
  part_both p q = record { has = λ j h. go j h (dec_lt j (length xs)) }
    where
      go : (j : ℕ) → j < length (xs ++ ys) → Dec (j < length xs) → at l (i + j) ≡ at (xs ++ ys) j
      go j h (yes u) = p.has j u ∙ sym (get_or-append xs ys 0 j u)
      go j h (no u) =
          let k : length xs + (j - length xs) ≡ j = omega arith in
          let f : i + w + (j - length xs) ≡ i + j = omega arith in
          rw (k, f) at (q.has (j - length xs) (omega (arith, length-append xs ys)) ∙ sym (get_or-append-add xs ys (j - length xs) 0))

pub part_all : (l : List ℕ) → Part l 0 l
part_all l = record { has = λ j h. let z : 0 + j ≡ j = omega arith in rw z refl }

pub part_front : (xs l : List ℕ) → Part (in_front xs l) 0 xs
unfolding in_front
part_front xs l = part_left xs (drop (length xs) l) refl (part_all (xs ++ drop (length xs) l))

pub part_same : {l : List ℕ} (xs : List ℕ) → length xs ≡ length l → Part l 0 xs → xs ≡ l
part_same {l} xs e p = ext_get_or 0 xs l e (λ j h. let z : 0 + j ≡ j = omega arith in sym (rw z at (p.has j h)))

-- rows of one width
module _ {l : List ℕ} {i : ℕ} (f : ℕ → List ℕ) (w : ℕ) where
  pub part_rows : (n : ℕ) → ((k : ℕ) → k < n → length (f k) ≡ w) → ((k : ℕ) → k < n → Part l (i + k * w) (f k)) → Part l i (rows f n)
  unfolding rows
  part_rows zero e p = record { has = λ j h. absurd (omega arith) }
  part_rows (suc n) e p =
      let s : length (rows f n) ≡ n * w = length-rows f w n (λ k h. e k (omega arith)) in
      part_both (rows f n) (f n) s (part_rows n (λ k h. e k (omega arith)) (λ k h. p k (omega arith))) (p n (omega arith))

  pub part_row : (n : ℕ) → ((k : ℕ) → k < n → length (f k) ≡ w) → Part l i (rows f n) → (k : ℕ) → k < n → Part l (i + k * w) (f k)
  unfolding rows
  part_row zero e p k h = absurd (omega arith)
  part_row (suc n) e p k h = go (dec_lt k n) (part_row n (λ m u. e m (omega arith)) (part_left (rows f n) (f n) s p) k)
    where
      s : length (rows f n) ≡ n * w
      s = length-rows f w n (λ m u. e m (omega arith))

      go : Dec (k < n) → (k < n → Part l (i + k * w) (f k)) → Part l (i + k * w) (f k)
      go (yes u) ih = ih u
      go (no u) ih = let q : k ≡ n = omega arith in rw q (part_right (rows f n) (f n) s p)

-- ---- a list stored from a place on

-- the elements before it stay, and those past it
pub stored_before : (xs l : List ℕ) (i k : ℕ) → k < i → at (sets l i xs) k ≡ at l k
stored_before [] l i k h = refl
stored_before (x ∷ xs) l i k h = stored_before xs (set l i x) (suc i) k (omega arith) ∙ get_or-set_other l i k x 0 (λ e. absurd (omega arith))

pub stored_past : (xs l : List ℕ) (i k : ℕ) → i + length xs ≤ k → at (sets l i xs) k ≡ at l k
stored_past [] l i k h = refl
stored_past (x ∷ xs) l i k h = stored_past xs (set l i x) (suc i) k (omega arith) ∙ get_or-set_other l i k x 0 (λ e. absurd (omega arith))

stored_at : (xs l : List ℕ) (i j : ℕ) → i + length xs ≤ length l → j < length xs → at (sets l i xs) (i + j) ≡ at xs j
stored_at [] l i j h u = absurd (omega arith)
stored_at (x ∷ xs) l i zero h u =
    let z : i + 0 ≡ i = omega arith in
    rw z (stored_before xs (set l i x) (suc i) i (omega arith) ∙ get_or-set_same l i x 0 (omega arith))
stored_at (x ∷ xs) l i (suc j) h u =
    let e : i + suc j ≡ suc i + j = omega arith in
    rw e (stored_at xs (set l i x) (suc i) j (omega (arith, length-set l i x)) (omega arith))

module _ (l : List ℕ) (i : ℕ) (xs : List ℕ) where
  pub part_stored : i + length xs ≤ length l → Part (sets l i xs) i xs
  part_stored h = record { has = λ j u. stored_at xs l i j h u }

  -- a part that ends before it, or begins past it
  pub part_before : {k : ℕ} (ys : List ℕ) → k + length ys ≤ i → Part l k ys → Part (sets l i xs) k ys
  part_before {k} ys h p = record { has = λ j u. stored_before xs l i (k + j) (omega arith) ∙ p.has j u }

  pub part_past : {k : ℕ} (ys : List ℕ) → i + length xs ≤ k → Part l k ys → Part (sets l i xs) k ys
  part_past {k} ys h p = record { has = λ j u. stored_past xs l i (k + j) (omega arith) ∙ p.has j u }

-- stores at places apart, in either order
store_apart : (xs l : List ℕ) (i j y : ℕ) → i + length xs ≤ j → sets (set l j y) i xs ≡ set (sets l i xs) j y
store_apart [] l i j y h = refl
store_apart (x ∷ xs) l i j y h = rw (set_comm l j i y x (λ e. absurd (omega arith))) (store_apart xs (set l i x) (suc i) j y (omega arith))

pub stores_apart : (xs ys l : List ℕ) (i j : ℕ) → i + length xs ≤ j → sets (sets l j ys) i xs ≡ sets (sets l i xs) j ys
stores_apart xs [] l i j h = refl
stores_apart xs (y ∷ ys) l i j h = stores_apart xs ys (set l j y) i (suc j) (omega arith) ∙ ap (λ m. sets m (suc j) ys) (store_apart xs l i j y h)
