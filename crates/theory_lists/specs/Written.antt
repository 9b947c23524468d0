-- What a loop leaves that stores `f k` at each k below n, in place. d is what `get_or` gives past the end.
use Prim.Native.Nat.{ℕ, zero, suc, ◌+◌, ◌-◌, ◌≤◌, ◌<◌}
use Rattle.std.specs.Prelude.{◌≡◌, List, set}
use Rattle.std.proofs.Math.Path.{refl}
use Rattle.std.proofs.Common.{ap, sym, ◌∙◌, add-one, get_or-set_same, ext_get_or}
use native.Mathlib.Omega.{arith}
use Rattle.std.proofs.Math.Decide.{dec_lt, ℕ_discrete}
use Rattle.std.proofs.Math.ListN.{length, get_or, length-set}
use Rattle.std.proofs.lemmas.List.{set-get_or, set_comm}
use Rattle.std.proofs.Math.Seq.{get_or-set_other}

-- what holds at each place of a list with one element changed
pub by_cell : {A : Type 0} (P : ℕ → A → Type 0) (d : A) (l : List A) (i : ℕ) (a : A) → i < length l → P i a → (k : ℕ) → P k (get_or l k d) → P k (get_or (set l i a) k d)
by_cell P d l i a h here k there = go (ℕ_discrete k i)
  where
    go : Dec (k ≡ i) → P k (get_or (set l i a) k d)
    go (yes e) = rw (e, get_or-set_same l i a d h) here
    go (no e) = rw (get_or-set_other l i k a d e) there

unfoldable pub written : {A : Type 0} → (ℕ → A) → ℕ → List A → List A
written f zero l = l
written f (suc k) l = set (written f k l) k (f k)

-- What a loop leaves that goes down from n: at n - j it stores `f j`, for each j from 1 to m.
unfoldable pub last_written : {A : Type 0} → (ℕ → A) → ℕ → ℕ → List A → List A
last_written f n zero l = l
last_written f n (suc m) l = set (last_written f n m l) (n - suc m) (f (suc m))

module _ {A : Type 0} (f : ℕ → A) where
  pub length-written : (n : ℕ) (l : List A) → length (written f n l) ≡ length l
  unfolding written
  length-written zero l = refl
  length-written (suc k) l = length-set (written f k l) k (f k) ∙ length-written k l

  -- from n on nothing has changed
  pub written-past : (d : A) (n : ℕ) (l : List A) (k : ℕ) → n ≤ k → get_or (written f n l) k d ≡ get_or l k d
  unfolding written
  written-past d zero l k h = refl
  written-past d (suc n) l k h = get_or-set_other (written f n l) n k (f n) d (omega arith) ∙ written-past d n l k (omega arith)

  -- below n stands f
  pub written_below : (d : A) (n : ℕ) (l : List A) (k : ℕ) → k < n → n ≤ length l → get_or (written f n l) k d ≡ f k
  unfolding written
  written_below d zero l k h e = absurd (omega arith)
  written_below d (suc n) l k h e = pick (dec_lt k n) (written_below d n l k)
    where
      pick : Dec (k < n) → (k < n → n ≤ length l → get_or (written f n l) k d ≡ f k) → get_or (set (written f n l) n (f n)) k d ≡ f k
      pick (yes p) ih = get_or-set_other (written f n l) n k (f n) d (omega arith) ∙ ih p (omega arith)
      pick (no p) ih =
          let q : k ≡ n = omega arith in
          rw q (get_or-set_same (written f n l) n (f n) d (omega (arith, length-written n l)))

  pub written_none : (l : List A) → written f 0 l ≡ l
  unfolding written
  written_none l = refl

  -- one turn of the loop
  pub written-more : (n : ℕ) (l : List A) (v : A) → v ≡ f n → set (written f n l) n v ≡ written f (n + 1) l
  unfolding written
  written-more n l v h = rw (h, add-one)

  pub last_none : (n : ℕ) (l : List A) → last_written f n 0 l ≡ l
  unfolding last_written
  last_none n l = refl

  pub last_more : (n m : ℕ) (l : List A) (v : A) → v ≡ f (m + 1) → set (last_written f n m l) (n - (m + 1)) v ≡ last_written f n (m + 1) l
  unfolding last_written
  last_more n m l v h = rw (h, add-one)

  -- before n - m nothing has changed
  pub last-before : (d : A) (n m : ℕ) (l : List A) (k : ℕ) → k < n - m → get_or (last_written f n m l) k d ≡ get_or l k d
  unfolding last_written
  last-before d n zero l k h = refl
  last-before d n (suc m) l k h =
      get_or-set_other (last_written f n m l) (n - suc m) k (f (suc m)) d (omega arith) ∙ last-before d n m l k (omega arith)

  pub length_last : (n m : ℕ) (l : List A) → length (last_written f n m l) ≡ length l
  unfolding last_written
  length_last n zero l = refl
  length_last n (suc m) l = length-set (last_written f n m l) (n - suc m) (f (suc m)) ∙ length_last n m l

  -- from there on stands f
  pub last_at : (d : A) (n m : ℕ) (l : List A) (k : ℕ) → m ≤ n → n - m ≤ k → k < n → n ≤ length l → get_or (last_written f n m l) k d ≡ f (n - k)
  unfolding last_written
  last_at d n zero l k o h u e = absurd (omega arith)
  last_at d n (suc m) l k o h u e = pick (ℕ_discrete k (n - suc m)) (last_at d n m l k (omega arith))
    where
      pick : Dec (k ≡ n - suc m) → (n - m ≤ k → k < n → n ≤ length l → get_or (last_written f n m l) k d ≡ f (n - k)) → get_or (set (last_written f n m l) (n - suc m) (f (suc m))) k d ≡ f (n - k)
      pick (yes q) ih =
          let r : n - (n - suc m) ≡ suc m = omega arith in
          rw (q, r) (get_or-set_same (last_written f n m l) (n - suc m) (f (suc m)) d (omega (arith, length_last n m l)))
      pick (no q) ih = get_or-set_other (last_written f n m l) (n - suc m) k (f (suc m)) d q ∙ ih (omega arith) u e

-- only the values below n matter
pub written_same : {A : Type 0} (f g : ℕ → A) (n : ℕ) (l : List A) → ((k : ℕ) → k < n → f k ≡ g k) → written f n l ≡ written g n l
unfolding written
written_same f g zero l e = refl
written_same f g (suc n) l e = rw (written_same f g n l (λ k h. e k (omega arith)), e n (omega arith)) refl

-- a list with its own elements written
pub written_own : {A : Type 0} (d : A) (n : ℕ) (l : List A) → written (λ k. get_or l k d) n l ≡ l
unfolding written
written_own d zero l = refl
written_own d (suc n) l = rw (written_own d n l) (set-get_or l n d)

-- and not what stood there before
pub written_over : {A : Type 0} (f : ℕ → A) (d : A) (n : ℕ) (l m : List A) → n ≤ length l → length m ≡ length l → ((k : ℕ) → n ≤ k → get_or m k d ≡ get_or l k d) → written f n m ≡ written f n l
written_over f d n l m room e past =
    ext_get_or d (written f n m) (written f n l) (length-written f n m ∙ e ∙ sym (length-written f n l)) (λ k h. go k (dec_lt k n))
  where
    go : (k : ℕ) → Dec (k < n) → get_or (written f n m) k d ≡ get_or (written f n l) k d
    go k (yes h) = written_below f d n m k h (omega arith) ∙ sym (written_below f d n l k h room)
    go k (no h) = written-past f d n m k (omega arith) ∙ past k (omega arith) ∙ sym (written-past f d n l k (omega arith))

-- ---- down from n over all n days is the same as up, however long the list

last_set : {A : Type 0} (f : ℕ → A) (n m : ℕ) (l : List A) (j : ℕ) (v : A) → j < n - m → set (last_written f n m l) j v ≡ last_written f n m (set l j v)
unfolding last_written
last_set f n zero l j v h = refl
last_set f n (suc m) l j v h =
    set_comm (last_written f n m l) (n - suc m) j (f (suc m)) v (λ e. omega arith)
    ∙ ap (λ x. set x (n - suc m) (f (suc m))) (last_set f n m l j v (omega arith))

last_rest : {A : Type 0} (f g : ℕ → A) (n m : ℕ) (l : List A) → m ≤ n → ((k : ℕ) → n - m ≤ k → k < n → f (n - k) ≡ g k)
    → last_written f n m (written g (n - m) l) ≡ written g n l
unfolding last_written
last_rest f g n zero l h e = let z : n - 0 ≡ n = omega arith in rw z
last_rest f g n (suc m) l h e =
    let q : n - suc m + 1 ≡ n - m = omega arith in
    let r : n - (n - suc m) ≡ suc m = omega arith in
    let v : f (suc m) ≡ g (n - suc m) = rw r at (e (n - suc m) (omega arith) (omega arith)) in
    last_set f n m (written g (n - suc m) l) (n - suc m) (f (suc m)) (omega arith)
    ∙ ap (last_written f n m) (rw q at (written-more g (n - suc m) l (f (suc m)) v))
    ∙ last_rest f g n m l (omega arith) (λ k u. e k (omega arith))

pub last-all : {A : Type 0} (f g : ℕ → A) (n : ℕ) (l : List A) → ((k : ℕ) → k < n → f (n - k) ≡ g k) → last_written f n n l ≡ written g n l
last-all f g n l e =
    let z : n - n ≡ 0 = omega arith in
    rw (z, written_none g l) at (last_rest f g n n l (omega arith) (λ k _. e k))

-- a loop down to day j, and one up to it
written_last : {A : Type 0} (f g : ℕ → A) (n m j : ℕ) (l : List A) → j ≤ n - m → written g j (last_written f n m l) ≡ last_written f n m (written g j l)
unfolding written
written_last f g n m zero l h = refl
written_last f g n m (suc j) l h =
    ap (λ x. set x j (g j)) (written_last f g n m j l (omega arith)) ∙ last_set f n m (written g j l) j (g j) (omega arith)

pub last-front : {A : Type 0} (f g : ℕ → A) (n j : ℕ) (l : List A) → j ≤ n → ((k : ℕ) → j ≤ k → k < n → f (n - k) ≡ g k)
    → written g j (last_written f n (n - j) l) ≡ written g n l
last-front f g n j l h e =
    let z : n - (n - j) ≡ j = omega arith in
    written_last f g n (n - j) j l (omega arith) ∙ (rw z at (last_rest f g n (n - j) l (omega arith) (λ k u. e k (omega arith))))
