-- Rows one after another, and a list stored from a place on.
use Prim.Native.Nat.{ℕ, zero, suc, ◌+◌, ◌*◌, ◌≤◌, ◌<◌}
use Rattle.std.specs.Prelude.{◌≡◌, refl, List, [], ◌∷◌, ◌++◌, get_or, take, set}
use Rattle.std.proofs.Common.{ap, ◌∙◌, append_assoc, add-zero, mul-le-mul_right, length-set, take-suc, length-take-le, take_all}
use Rattle.std.proofs.Math.Numerals.{add-one}
use borrow.Rule.Slice.PartMut.{put_mid}
use native.Mathlib.Omega.{arith}
use Rattle.std.proofs.Math.ListN.{length, length-append, get_or-append}
use Rattle.std.proofs.lemmas.List.{drop-drop}
use Rattle.std.proofs.lemmas.List.Edits.{sets, sets-eq}
use Rattle.std.proofs.Math.Seq.{length-sets}
use Rattle.theory_lists.specs.Front.{in_front}

-- f 0, f 1, .. , n of them, one after another
unfoldable pub rows : {A : Type 0} → (ℕ → List A) → ℕ → List A
rows f zero = []
rows f (suc n) = rows f n ++ f n

module _ {A : Type 0} (f : ℕ → List A) where
  pub rows_add : (n : ℕ) → rows f (n + 1) ≡ rows f n ++ f n
  unfolding rows
  rows_add n = rw add-one

  pub length-rows : (w n : ℕ) → ((k : ℕ) → k < n → length (f k) ≡ w) → length (rows f n) ≡ n * w
  unfolding rows
  length-rows w zero h = omega arith
  length-rows w (suc n) h = omega (arith, length-append (rows f n) (f n), length-rows w n (λ k l. h k (omega arith)), h n (omega arith))

  pub rows-most : (w n : ℕ) → ((k : ℕ) → k < n → length (f k) ≤ w) → length (rows f n) ≤ n * w
  unfolding rows
  rows-most w zero h = omega arith
  rows-most w (suc n) h = omega (arith, length-append (rows f n) (f n), rows-most w n (λ k l. h k (omega arith)), h n (omega arith))

pub rows_same : {A : Type 0} (f g : ℕ → List A) (n : ℕ) → ((k : ℕ) → k < n → f k ≡ g k) → rows f n ≡ rows g n
unfolding rows
rows_same f g zero h = refl
rows_same f g (suc n) h = rw (rows_same f g n (λ k l. h k (omega arith)), h n (omega arith)) refl

-- the first rows stand in front of all
pub rows_grow : {A : Type 0} (f : ℕ → List A) (b j : ℕ) → length (rows f b) ≤ length (rows f (b + j))
unfolding rows
rows_grow f b zero = let e : b + 0 ≡ b = omega arith in rw e (omega arith)
rows_grow f b (suc j) = let e : b + suc j ≡ suc (b + j) = omega arith in rw e (omega (arith, rows_grow f b j, length-append (rows f (b + j)) (f (b + j))))

pub rows-front : {A : Type 0} (d : A) (f : ℕ → List A) (b j k : ℕ) → k < length (rows f b) → get_or (rows f (b + j)) k d ≡ get_or (rows f b) k d
unfolding rows
rows-front d f b zero k h = let e : b + 0 ≡ b = omega arith in rw e refl
rows-front d f b (suc j) k h =
    let e : b + suc j ≡ suc (b + j) = omega arith in
    rw e (get_or-append (rows f (b + j)) (f (b + j)) d k (omega (arith, rows_grow f b j)) ∙ rows-front d f b j k h)

module _ {A : Type 0} where
  -- two lists stored one after the other
  pub sets_append : (xs ys l : List A) (i : ℕ) → sets (sets l i xs) (i + length xs) ys ≡ sets l i (xs ++ ys)
  sets_append [] ys l i = rw (add-zero i)
  sets_append (a ∷ xs) ys l i =
      let e : i + suc (length xs) ≡ suc i + length xs = omega arith in
      rw e (sets_append xs ys (set l i a) (suc i))

  -- ys stored after the w elements of xs
  pub stored_after : (l : List A) (i w : ℕ) (xs ys : List A) {m out : List A} → length xs ≡ w → m ≡ sets l i xs → out ≡ sets m (i + w) ys → out ≡ sets l i (xs ++ ys)
  stored_after l i w xs ys e p q = rw (q, p, ← e) (sets_append xs ys l i)

  -- a list stored from the start on
  pub front-sets : (xs l : List A) → length xs ≤ length l → sets l 0 xs ≡ in_front xs l
  unfolding in_front
  front-sets xs l h =
      let e : 0 + length xs ≡ length xs = omega arith in
      rw e at (sets-eq xs l 0 (omega arith))

  -- one row more
  pub rows_more : (f : ℕ → List A) (l : List A) (i k : ℕ) → sets (sets l i (rows f k)) (i + length (rows f k)) (f k) ≡ sets l i (rows f (k + 1))
  rows_more f l i k = rw (rows_add f k) (sets_append (rows f k) (f k) l i)

-- ---- a loop that stores n rows from a place on: the first k are stored, and the next one begins at `next`

pub record Stored {A : Type 0} (f : ℕ → List A) (n place : ℕ) (l : List A) (k next : ℕ) (out : List A) : Type 0 where
  pub most : k ≤ n
  pub kept : length out ≡ length l
  pub made : out ≡ sets l place (rows f k)
  pub ends : next ≡ place + length (rows f k)

module _ {A : Type 0} {f : ℕ → List A} {n place : ℕ} {l : List A} where
  pub stored_none : Stored f n place l 0 place l
  unfolding rows
  stored_none = record { most = omega arith; kept = refl; made = refl; ends = omega arith }

  pub stored_more : {k next end : ℕ} {out after : List A} → Stored f n place l k next out → k < n → (after ≡ sets out next (f k)) × (end ≡ next + length (f k)) → Stored f n place l (k + 1) end after
  stored_more {k} {next} {end} {out} {after} h u e =
      record {
        most = omega arith;
        kept = ap length e.0 ∙ length-sets out next (f k) ∙ h.kept;
        made = rw (e.0, h.made, h.ends) (rows_more f l place k);
        ends = rw (rows_add f k) (omega (arith, e.1, h.ends, length-append (rows f k) (f k)));
      }

  pub stored_all : {k next : ℕ} {out : List A} → Stored f n place l k next out → n ≤ k → (out ≡ sets l place (rows f n)) × (next ≡ place + length (rows f n))
  stored_all {k} h u = let e : k ≡ n = omega (arith, h.most) in (rw e at h.made, rw e at h.ends)

  -- there is room for one row more, where none is longer than w
  pub stored_room : {k next : ℕ} {out : List A} (w : ℕ) → Stored f n place l k next out → k < n → ((j : ℕ) → j < n → length (f j) ≤ w) → place + n * w ≤ length l → next + length (f k) ≤ length out
  stored_room {k} w h u b r =
      let over : (k + 1) * w ≤ n * w = mul-le-mul_right w (omega arith) in
      omega (arith, h.kept, h.ends, b k u, rows-most f w k (λ j v. b j (omega arith)), over, r)

-- rows of one width
module _ {A : Type 0} {f : ℕ → List A} {n place : ℕ} {l : List A} (w : ℕ) where
  pub even_none : Stored f n place l 0 (place + 0 * w) l
  even_none = let z : place + 0 * w ≡ place = omega arith in rw z stored_none

  pub even_more : {k : ℕ} {out after : List A} → ((j : ℕ) → length (f j) ≡ w) → Stored f n place l k (place + k * w) out → k < n → after ≡ sets out (place + k * w) (f k)
      → Stored f n place l (k + 1) (place + (k + 1) * w) after
  even_more {k} wide h u e = stored_more h u (e, omega (arith, wide k))

-- ---- a loop that stores a list from a place on, one element after another: the first i are stored

pub record Copied {A : Type 0} (xs : List A) (place i : ℕ) (l out : List A) : Type 0 where
  pub most : i ≤ length xs
  pub kept : length out ≡ length l
  pub made : out ≡ sets l place (take i xs)

module _ {A : Type 0} {xs l : List A} {place : ℕ} where
  pub copied_none : Copied xs place 0 l l
  copied_none = record { most = omega arith; kept = refl; made = refl }

  pub copied_more : {i : ℕ} {v : A} {out : List A} (d : A) → Copied xs place i l out → i < length xs → v ≡ get_or xs i d → Copied xs place (i + 1) l (set out (place + i) v)
  copied_more {i} {v} {out} d h u e =
      let n = length-take-le i xs (omega arith) in
      let t : take (i + 1) xs ≡ take i xs ++ get_or xs i d ∷ [] = rw (add-one i) (take-suc xs i d u) in
      record {
        most = omega arith;
        kept = length-set out (place + i) v ∙ h.kept;
        made = rw (h.made, t, e) (rw n at (sets_append (take i xs) (get_or xs i d ∷ []) l place));
      }

  pub copied_all : {i : ℕ} {out : List A} → Copied xs place i l out → length xs ≤ i → out ≡ sets l place xs
  copied_all {i} h u = rw (take_all i xs u) at h.made

-- ---- a list written at once over a part that is as long: what std's copies leave

pub pasted : {A : Type 0} (l : List A) (place : ℕ) {w : ℕ} {xs ys : List A} → ys ≡ xs → w ≡ length xs → place + w ≤ length l → put_mid place w l ys ≡ sets l place xs
pasted l place {w} {xs} e n h =
    rw (e, n, drop-drop (length xs) place l, sets-eq xs l place (omega (arith, n))) (rw append_assoc refl)
