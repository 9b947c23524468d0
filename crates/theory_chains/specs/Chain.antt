-- Chains: sequences that never fall, and rise by at most g k from day k to the next.
use Rattle.std.specs.Prelude.{◌≡◌, refl, Bool, true, false, ◌⊎◌, ◌≢◌}
use Rattle.std.proofs.Common.{ap, ◌∙◌, inl, inr, le_refl, arith}
use Prim.Native.Nat.{ℕ, zero, suc, ◌+◌, ◌≤◌, ◌<◌}
use Rattle.std.proofs.Math.Nat.{suc_inj}
use Rattle.std.proofs.Math.Decide.{dec_le, dec_lt, ℕ_discrete}
use Rattle.theory_chains.specs.Sum.{sum, weigh, all, sum_le, sum_eq}

pub record Chain (n : ℕ) (g y : ℕ → ℕ) : Type 0 where
  pub up : (k : ℕ) → suc k < n → y k ≤ y (suc k)
  pub near : (k : ℕ) → suc k < n → y (suc k) ≤ y k + g k

-- y is nowhere above z, below day n
abbrev pub Below : ℕ → (ℕ → ℕ) → (ℕ → ℕ) → Type 0
Below n y z = (k : ℕ) → k < n → y k ≤ z k

-- y with one more on day j
bumped : {A : Type 0} → Dec A → ℕ → ℕ
bumped (yes e) v = suc v
bumped (no e) v = v

pub bump : ℕ → (ℕ → ℕ) → ℕ → ℕ
bump j y k = bumped (ℕ_discrete k j) (y k)

bumped-yes : {A : Type 0} (d : Dec A) (v : ℕ) → A → bumped d v ≡ suc v
unfolding bumped
bumped-yes (yes e) v a = refl
bumped-yes (no e) v a = absurd (e a)

bumped_no : {A : Type 0} (d : Dec A) (v : ℕ) → (A → ⊥) → bumped d v ≡ v
unfolding bumped
bumped_no (yes e) v a = absurd (a e)
bumped_no (no e) v a = refl

bump_at : (j k : ℕ) (y : ℕ → ℕ) → k ≡ j → bump j y k ≡ suc (y k)
unfolding bump
bump_at j k y e = bumped-yes (ℕ_discrete k j) (y k) e

bump_other : (j k : ℕ) (y : ℕ → ℕ) → k ≢ j → bump j y k ≡ y k
unfolding bump
bump_other j k y h = bumped_no (ℕ_discrete k j) (y k) h

weigh-suc : (b : Bool) (v : ℕ) → weigh b (suc v) ≡ weigh b v + weigh b 1
weigh-suc true v = omega arith
weigh-suc false v = refl

sum_bump : (w : ℕ → Bool) (n j : ℕ) (y : ℕ → ℕ) → j < n → sum w n (bump j y) ≡ sum w n y + weigh (w j) 1
sum_bump w zero j y h = absurd (omega arith)
sum_bump w (suc n) j y h = go (ℕ_discrete n j) (sum_bump w n j y)
  where
    go : Dec (n ≡ j) → (j < n → sum w n (bump j y) ≡ sum w n y + weigh (w j) 1) → sum w (suc n) (bump j y) ≡ sum w (suc n) y + weigh (w j) 1
    go (yes e) below =
        let a : sum w n (bump j y) ≡ sum w n y = sum_eq w n (bump j y) y (λ k l. bump_other j k y (omega arith)) in
        let b : weigh (w n) (bump j y n) ≡ weigh (w n) (y n) + weigh (w n) 1 = ap (weigh (w n)) (bump_at j n y e) ∙ weigh-suc (w n) (y n) in
        let d : weigh (w n) 1 ≡ weigh (w j) 1 = ap (λ (k : ℕ). weigh (w k) 1) e in
        omega arith
    go (no e) below =
        let a : sum w n (bump j y) ≡ sum w n y + weigh (w j) 1 = below (omega arith) in
        let b : weigh (w n) (bump j y n) ≡ weigh (w n) (y n) = ap (weigh (w n)) (bump_other j n y e) in
        omega arith

weigh-one_le : (b : Bool) → weigh b 1 ≤ 1
weigh-one_le true = le_refl 1
weigh-one_le false = omega arith

-- ---- one day can be raised

module _ (n : ℕ) (g : ℕ → ℕ) (p : ℕ → ℕ) (cp : Chain n g p) where
  bump-chain : (j : ℕ) → ((k : ℕ) → k ≡ j → suc k < n → suc (p k) ≤ p (suc k)) → ((k : ℕ) → suc k ≡ j → suc k < n → suc (p (suc k)) ≤ p k + g k) → Chain n g (bump j p)
  bump-chain j right left = record { up = ups; near = nears }
    where
      ups : (k : ℕ) → suc k < n → bump j p k ≤ bump j p (suc k)
      ups k h = go (ℕ_discrete k j) (ℕ_discrete (suc k) j)
        where
          go : Dec (k ≡ j) → Dec (suc k ≡ j) → bump j p k ≤ bump j p (suc k)
          go (yes e) f = omega (arith, bump_at j k p e, bump_other j (suc k) p (omega arith), right k e h)
          go (no e) (yes f) = omega (arith, bump_other j k p e, bump_at j (suc k) p f, cp.up k h)
          go (no e) (no f) = omega (arith, bump_other j k p e, bump_other j (suc k) p f, cp.up k h)

      nears : (k : ℕ) → suc k < n → bump j p (suc k) ≤ bump j p k + g k
      nears k h = go (ℕ_discrete k j) (ℕ_discrete (suc k) j)
        where
          go : Dec (k ≡ j) → Dec (suc k ≡ j) → bump j p (suc k) ≤ bump j p k + g k
          go (yes e) f = omega (arith, bump_at j k p e, bump_other j (suc k) p (omega arith), cp.near k h)
          go (no e) (yes f) = omega (arith, bump_other j k p e, bump_at j (suc k) p f, left k f h)
          go (no e) (no f) = omega (arith, bump_other j k p e, bump_other j (suc k) p f, cp.near k h)

-- a day of p below q that can go up by one
pub record Raisable (n : ℕ) (g p q : ℕ → ℕ) : Type 0 where
  pub day : ℕ
  pub inside : day < n
  pub room : p day < q day
  pub chain : Chain n g (bump day p)

module _ (n : ℕ) (g : ℕ → ℕ) (gaps : (k : ℕ) → 1 ≤ g k) (q : ℕ → ℕ) (cq : Chain n g q) (p : ℕ → ℕ) (cp : Chain n g p) where
  -- from a day that the next one does not stop, down to one that the one before does not stop either
  raise-from : (k : ℕ) → k < n → p k < q k → (suc k < n → suc (p k) ≤ p (suc k)) → Raisable n g p q
  raise-from zero h room right =
      record {
        day = zero;
        inside = h;
        room = room;
        chain = bump-chain n g p cp zero (λ k e l. rw e (right (omega arith))) (λ k e l. absurd (omega arith));
      }
  raise-from (suc k) h room right = go (dec_le (suc (p (suc k))) (p k + g k)) (raise-from k)
    where
      go : Dec (suc (p (suc k)) ≤ p k + g k) → (k < n → p k < q k → (suc k < n → suc (p k) ≤ p (suc k)) → Raisable n g p q) → Raisable n g p q
      go (yes free) before =
          record {
            day = suc k;
            inside = h;
            room = room;
            chain = bump-chain n g p cp (suc k) (λ m e l. rw e (right (omega arith))) (λ m e l. rw (suc_inj e) free);
          }
      go (no tight) before =
          before (omega arith) (omega (arith, cq.near k h, cp.up k h)) (λ l. omega (arith, gaps k))

  -- q is met everywhere, or some day can be raised
  raise : (m : ℕ) → m ≤ n → ((k : ℕ) → m ≤ k → k < n → q k ≤ p k) → Below n q p ⊎ Raisable n g p q
  raise zero h met = inl (λ k l. met k (omega arith) l)
  raise (suc m) h met = go (dec_lt (p m) (q m)) (raise m)
    where
      go : Dec (p m < q m) → (m ≤ n → ((k : ℕ) → m ≤ k → k < n → q k ≤ p k) → Below n q p ⊎ Raisable n g p q) → Below n q p ⊎ Raisable n g p q
      go (yes room) before = inr (raise-from m h room (λ l. omega (arith, met (suc m) (omega arith) l, cq.up m l)))
      go (no full) before = before (omega arith) (λ k l u. at k l u (ℕ_discrete k m))
        where
          at : (k : ℕ) → m ≤ k → k < n → Dec (k ≡ m) → q k ≤ p k
          at k l u (yes e) = rw e (omega arith)
          at k l u (no e) = met k (omega arith) u

-- a chain between p and q that adds up to t
pub record Reached (w : ℕ → Bool) (n : ℕ) (g p q : ℕ → ℕ) (t : ℕ) : Type 0 where
  pub at : ℕ → ℕ
  pub chain : Chain n g at
  pub above : Below n p at
  pub below : Below n at q
  pub adds : sum w n at ≡ t

below-refl : (n : ℕ) (y : ℕ → ℕ) → Below n y y
below-refl n y k h = le_refl (y k)

-- the raised chain is still below q, and above p
bump-below : (n j : ℕ) (p q : ℕ → ℕ) → p j < q j → Below n p q → Below n (bump j p) q
bump-below n j p q room pq k h = go (ℕ_discrete k j)
  where
    go : Dec (k ≡ j) → bump j p k ≤ q k
    go (yes e) = rw (e, bump_at j j p refl) room
    go (no e) = rw (bump_other j k p e) (pq k h)

bump-above : (j k : ℕ) (p : ℕ → ℕ) → p k ≤ bump j p k
bump-above j k p = go (ℕ_discrete k j)
  where
    go : Dec (k ≡ j) → p k ≤ bump j p k
    go (yes e) = omega (arith, bump_at j k p e)
    go (no e) = omega (arith, bump_other j k p e)

module _ (w : ℕ → Bool) (n : ℕ) (g : ℕ → ℕ) (gaps : (k : ℕ) → 1 ≤ g k) (q : ℕ → ℕ) (cq : Chain n g q) (t : ℕ) (top : t ≤ sum w n q) where
  -- where climbing can go on from any higher chain
  Onward : ℕ → Type 0
  Onward f = (p : ℕ → ℕ) → Chain n g p → Below n p q → sum all n q ≤ sum all n p + f → sum w n p ≤ t → Reached w n g p q t

  -- one day up, and onward
  higher : (f : ℕ) → Onward f → (p : ℕ → ℕ) → Below n p q → sum all n q ≤ sum all n p + suc f → sum w n p < t → Raisable n g p q → Reached w n g p q t
  unfolding Onward
  higher f onward p pq enough short r =
      let j = r.day in
      let one : sum w n (bump j p) ≡ sum w n p + weigh (w j) 1 = sum_bump w n j p r.inside in
      let whole : sum all n (bump j p) ≡ sum all n p + 1 = sum_bump all n j p r.inside in
      let z : Reached w n g (bump j p) q t =
      onward (bump j p) r.chain (bump-below n j p q r.room pq) (omega arith) (omega (arith, weigh-one_le (w j))) in
      record {
        at = z.at;
        chain = z.chain;
        above = λ k h. omega (arith, bump-above j k p, z.above k h);
        below = z.below;
        adds = z.adds;
      }

  stop : (p : ℕ → ℕ) → Chain n g p → Below n p q → sum w n p ≤ t → t ≤ sum w n p → Reached w n g p q t
  stop p cp pq bottom done = record { at = p; chain = cp; above = below-refl n p; below = pq; adds = omega arith }

  found : (p : ℕ → ℕ) (cp : Chain n g p) → Below n q p ⊎ Raisable n g p q
  found p cp = raise n g gaps q cq p cp n (le_refl n) (λ k l u. absurd (omega arith))

  -- the chains that are raised one day at a time pass every total; f bounds the raises that are left
  climb : (f : ℕ) → Onward f
  unfolding Onward
  climb zero p cp pq enough bottom = go (dec_le t (sum w n p)) (found p cp)
    where
      go : Dec (t ≤ sum w n p) → Below n q p ⊎ Raisable n g p q → Reached w n g p q t
      go (yes done) d = stop p cp pq bottom done
      go (no short) (inl full) = absurd (omega (arith, sum_le w n q p full))
      go (no short) (inr r) =
          absurd (omega (arith, sum_bump all n r.day p r.inside, sum_le all n (bump r.day p) q (bump-below n r.day p q r.room pq)))
  climb (suc f) p cp pq enough bottom = go (climb f) (dec_le t (sum w n p)) (found p cp)
    where
      go : Onward f → Dec (t ≤ sum w n p) → Below n q p ⊎ Raisable n g p q → Reached w n g p q t
      go onward (yes done) d = stop p cp pq bottom done
      go onward (no short) (inl full) = absurd (omega (arith, sum_le w n q p full))
      go onward (no short) (inr r) = higher f onward p pq enough (omega arith) r

-- every total between those of two chains, one above the other, is that of a chain between them
pub between : (w : ℕ → Bool) (n : ℕ) (g : ℕ → ℕ) → ((k : ℕ) → 1 ≤ g k) → (p q : ℕ → ℕ) → Chain n g p → Chain n g q → Below n p q
    → (t : ℕ) → sum w n p ≤ t → t ≤ sum w n q → Reached w n g p q t
unfolding Onward
between w n g gaps p q cp cq pq t bottom top = climb w n g gaps q cq t top (sum all n q) p cp pq (omega arith) bottom
