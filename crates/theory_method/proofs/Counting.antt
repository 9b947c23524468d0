-- The ceilings' pass and the days that count. Where the days from one on do: from there on it is the pass over all days, and before it a ceiling is only
-- carried back. Where the first days do: it is the pass over these alone.
use Prim.Native.Nat.{ℕ, zero, suc, ◌+◌, ◌-◌, ◌≤◌, ◌<◌, min}
use mathlib.Core.Path.{◌≡◌, refl, ap, ◌∙◌}
use mathlib.Core.Bool.{Bool, false}
use mathlib.Core.List.{List}
use native.Mathlib.Omega.{arith}
use native.Mathlib.Decide.{dec_lt}
use Rattle.limits.specs.Limits.{rise_offset}
use Rattle.theory_lists.specs.Sum.{at, sum-none, sum-front, sum_below, sum_zeros, sum_same}
use Rattle.theory_chains.specs.Sum.{weigh, weigh_le, all}
use Rattle.theory_chains.specs.Fit.{fitted-one, fitted-same, fitted_moved}
use Rattle.theory_method.specs.Shift.{shift, shift-step}
use Rattle.theory_method.specs.Counted.{counted, counted_in, counted-before, counted-past}
use Rattle.theory_method.specs.Filter.{shifted, overload, lowered_from, lowered}
use Rattle.theory_method.specs.Stages.{Ready, Rising}
use Rattle.theory_method.proofs.Stages.{shifted-rise, day-fitted, last-lowered, lowered-shifted}

-- ---- overloads

module _ (fs rs : List ℕ) (n : ℕ) (w : ℕ → Bool) where
  -- only the days from day k on matter
  load_alike : (w' : ℕ → Bool) (k : ℕ) → ((j : ℕ) → k ≤ j → j < n → w j ≡ w' j) → (v : ℕ) → overload fs rs n w k v ≡ overload fs rs n w' k v
  load_alike w' k alike v =
      sum_same (λ j. weigh (w j) (v - shifted fs rs n j)) (λ j. weigh (w' j) (v - shifted fs rs n j)) k k (n - k)
      (λ j l. ap (λ (b : Bool). weigh b (v - shifted fs rs n (k + j))) (alike (k + j) (omega arith) (omega arith)))

  -- an uncounted day has that of the next day
  load-next : (k : ℕ) → k < n → w k ≡ false → (v : ℕ) → overload fs rs n w k v ≡ overload fs rs n w (k + 1) v
  load-next k h e v =
      let count : n - k ≡ n - (k + 1) + 1 = omega arith in
      let own : weigh (w k) (v - shifted fs rs n k) ≡ 0 = rw e in
      rw count (omega (arith, sum-front (λ j. weigh (w j) (v - shifted fs rs n j)) k (n - (k + 1))))

  -- a lower level has no larger one
  load_below : (k u v : ℕ) → u ≤ v → overload fs rs n w k u ≤ overload fs rs n w k v
  load_below k u v h =
      sum_below (λ j. weigh (w j) (u - shifted fs rs n j)) (λ j. weigh (w j) (v - shifted fs rs n j)) k (n - k) (λ j l t. weigh_le (w j) (omega arith))

-- ---- shifted ceilings

module _ {fs cs rs : List ℕ} {n : ℕ} (r : Ready fs cs rs n) (w : ℕ → Bool) (margin : ℕ) where
  -- where the days from day i on count alike, the ceilings from there on are the same
  from_alike : (w' : ℕ → Bool) (i : ℕ) → ((j : ℕ) → i ≤ j → j < n → w j ≡ w' j)
      → (d k : ℕ) → k + d ≡ n → i ≤ k → lowered_from fs cs rs n w margin (n - k) ≡ lowered_from fs cs rs n w' margin (n - k)
  from_alike w' i alike zero k e h =
      let none : n - k ≡ 0 = omega arith in
      rw (none, last-lowered r w margin, last-lowered r w' margin)
  from_alike w' i alike (suc d) k e h =
      let load = load_alike fs rs n w w' k (λ j l. alike j (omega arith)) in
      let cap = ap (λ (v : ℕ). min v (shifted cs rs n k)) (from_alike w' i alike d (k + 1) (omega arith) (omega arith)) in
      fitted-one (fitted-same (day-fitted r w margin k (omega arith)) load refl refl cap) (day-fitted r w' margin k (omega arith))

  -- the next day's ceiling is within the margin
  next-within : (k : ℕ) → k < n → overload fs rs n w (k + 1) (lowered_from fs cs rs n w margin (n - (k + 1))) ≤ margin
  next-within k h = go (dec_lt (k + 1) n)
    where
      go : Dec (k + 1 < n) → overload fs rs n w (k + 1) (lowered_from fs cs rs n w margin (n - (k + 1))) ≤ margin
      go (yes l) = (day-fitted r w margin (k + 1) l).within
      go (no l) = let none : n - (k + 1) ≡ 0 = omega arith in rw (none, sum-none) (omega arith)

  -- so an uncounted day has the lower one of that and its own
  from_uncounted : (k : ℕ) → k < n → w k ≡ false → lowered_from fs cs rs n w margin (n - k) ≡ min (lowered_from fs cs rs n w margin (n - (k + 1))) (shifted cs rs n k)
  from_uncounted k h e = go (dec_lt (lowered_from fs cs rs n w margin (n - k)) cap)
    where
      next : ℕ
      next = lowered_from fs cs rs n w margin (n - (k + 1))

      cap : ℕ
      cap = min next (shifted cs rs n k)

      go : Dec (lowered_from fs cs rs n w margin (n - k) < cap) → lowered_from fs cs rs n w margin (n - k) ≡ cap
      go (yes l) =
          absurd (omega (arith, (day-fitted r w margin k h).past cap l (omega arith), load-next fs rs n w k h e cap, load_below fs rs n w (k + 1) cap next (omega arith), next-within k h))
      go (no l) = omega (arith, (day-fitted r w margin k h).most)

  -- the last day's bound is its own
  cap_last : (k : ℕ) → k + 1 ≡ n → min (lowered_from fs cs rs n w margin (n - (k + 1))) (shifted cs rs n k) ≡ shifted cs rs n k
  cap_last k e =
      let none : n - (k + 1) ≡ 0 = omega arith in
      let last : n - 1 ≡ k = omega arith in
      rw (none, last-lowered r w margin) (omega (arith, ap (shifted cs rs n) last))

-- ---- the days from `first` on count

module _ {fs cs rs : List ℕ} {n first : ℕ} (r : Ready fs cs rs n) where
  -- from the first counted day on the pass is that over all days
  pub lowered-counted : (margin k : ℕ) → first ≤ k → k < n → lowered fs cs rs n (counted first n) margin k ≡ lowered fs cs rs n all margin k
  lowered-counted margin k h l = ap (λ (v : ℕ). v - shift (at rs) n k) (from_alike r (counted first n) margin all first (counted_in first n) (n - k) k (omega arith) h)

  -- before it no round is made: each ceiling is only carried back
  pub lowered-before : first < n → (margin k : ℕ) → k < first
      → lowered fs cs rs n (counted first n) margin k ≡ min (at cs k) (lowered fs cs rs n (counted first n) margin (k + 1) + rise_offset - at rs k)
  lowered-before counts margin k h =
      let w : ℕ → Bool = counted first n in
      omega (
        arith,
        lowered-shifted r w margin k (omega arith),
        lowered-shifted r w margin (k + 1) (omega arith),
        from_uncounted r w margin k (omega arith) (counted-before first n k h),
        shift-step (at rs) n r.most r.rise k (omega arith),
      )

-- ---- the first m days count, and the ceilings rise

module _ {fs cs rs : List ℕ} {n m : ℕ} (r : Ready fs cs rs n) (up : Rising cs rs n) (margin : ℕ) where
  -- from the last counted day on a day's bound is its own ceiling
  cap_past : (d k : ℕ) → k + suc d ≡ n → m ≤ k + 1 → min (lowered_from fs cs rs n (counted 0 m) margin (n - (k + 1))) (shifted cs rs n k) ≡ shifted cs rs n k
  cap_past zero k e h = cap_last r (counted 0 m) margin k (omega arith)
  cap_past (suc d) k e h =
      omega (
        arith,
        from_uncounted r (counted 0 m) margin (k + 1) (omega arith) (counted-past 0 m (k + 1) h),
        cap_past d (k + 1) (omega arith) (omega arith),
        (shifted-rise r (at cs k) (at cs (k + 1)) k (omega arith)).0 (up k (omega arith)),
      )

  -- a day past the counted ones keeps its ceiling
  pub lowered-past : (k : ℕ) → m ≤ k → k < n → lowered fs cs rs n (counted 0 m) margin k ≡ at cs k
  lowered-past k h l =
      omega (
        arith,
        from_uncounted r (counted 0 m) margin k l (counted-past 0 m k h),
        cap_past (n - (k + 1)) k (omega arith) (omega arith),
      )

-- the same ranges over n days and over the first m of them, with the same rises
module _ {fs cs rs rs' : List ℕ} {n m : ℕ} (r : Ready fs cs rs n) (r' : Ready fs cs rs' m) (few : m ≤ n) (same : (k : ℕ) → k + 1 < m → at rs' k ≡ at rs k) where
  -- the shifts of the last of the m days: all shifted levels are as far apart
  abbrev long : ℕ
  long = shift (at rs) n (m - 1)

  abbrev short : ℕ
  short = shift (at rs') m (m - 1)

  shifts_apart : (d k : ℕ) → k + suc d ≡ m → shift (at rs) n k + short ≡ shift (at rs') m k + long
  shifts_apart zero k e = let here : m - 1 ≡ k = omega arith in rw here (omega arith)
  shifts_apart (suc d) k e =
      omega (
        arith,
        shifts_apart d (k + 1) (omega arith),
        shift-step (at rs) n r.most r.rise k (omega arith),
        shift-step (at rs') m r'.most r'.rise k (omega arith),
        same k (omega arith),
      )

  apart : (l : List ℕ) (k : ℕ) → k < m → shifted l rs n k + short ≡ shifted l rs' m k + long
  apart l k h = omega (arith, shifts_apart (m - (k + 1)) k (omega arith))

  -- levels as far apart have the same overload
  load_apart : (k : ℕ) → k < m → (u u' : ℕ) → u + short ≡ u' + long → overload fs rs n (counted 0 m) k u ≡ overload fs rs' m all k u'
  load_apart k h u u' e =
      let count : n - k ≡ m - k + (n - m) = omega arith in
      rw count
      (sum_zeros (λ j. weigh (counted 0 m j) (u - shifted fs rs n j)) k (m - k) (n - m) (λ j l t. rw (counted-past 0 m j (omega arith)))
      ∙ sum_same (λ j. weigh (counted 0 m j) (u - shifted fs rs n j)) (λ j. u' - shifted fs rs' m j) k k (m - k) (λ j l. one (k + j) (omega arith)))
    where
      one : (j : ℕ) → j < m → weigh (counted 0 m j) (u - shifted fs rs n j) ≡ u' - shifted fs rs' m j
      one j l = rw (counted_in 0 m j (omega arith) l) (omega (arith, apart fs j l))

  module _ (up : Rising cs rs n) (margin : ℕ) where
    abbrev high : ℕ → ℕ
    high k = lowered_from fs cs rs n (counted 0 m) margin (n - k)

    abbrev high' : ℕ → ℕ
    high' k = lowered_from fs cs rs' m all margin (m - k)

    -- a day's ceilings are as far apart as their bounds
    front-day : (k : ℕ) → k < m → min (high (k + 1)) (shifted cs rs n k) + short ≡ min (high' (k + 1)) (shifted cs rs' m k) + long → high k + short ≡ high' k + long
    front-day k h = fitted_moved short long (day-fitted r (counted 0 m) margin k (omega arith)) (day-fitted r' all margin k h) (load_apart k h)

    from_front : (d k : ℕ) → k + suc d ≡ m → high k + short ≡ high' k + long
    from_front zero k e =
        front-day k (omega arith)
        (omega (arith, cap_past {m = m} r up margin (n - (k + 1)) k (omega arith) (omega arith), cap_last r' all margin k (omega arith), apart cs k (omega arith)))
    from_front (suc d) k e = front-day k (omega arith) (omega (arith, from_front d (k + 1) (omega arith), apart cs k (omega arith)))

    -- a counted day has the ceiling of the pass over these days alone
    pub lowered-front : (k : ℕ) → k < m → lowered fs cs rs n (counted 0 m) margin k ≡ lowered fs cs rs' m all margin k
    lowered-front k h = omega (arith, from_front (m - (k + 1)) k (omega arith), shifts_apart (m - (k + 1)) k (omega arith))
