-- What each stage of filtering hands to the next: that it is so.
use Prim.Native.Nat.{ℕ, zero, suc, ◌+◌, ◌-◌, ◌≤◌, ◌<◌, min}
use Rattle.std.specs.Prelude.{◌≡◌, ◌↔◌, Bool, true, false, cond, List, ltb, length}
use Rattle.std.proofs.Math.Path.{refl}
use Rattle.std.proofs.Common.{ap, ◌∙◌, ltb-true, ltb-false}
use Rattle.std.proofs.Math.Numerals.{add-one}
use Rattle.std.proofs.Math.Nat.{le_refl}
use native.Mathlib.Omega.{arith}
use Rattle.std.proofs.Math.Decide.{dec_lt}
use Rattle.std.proofs.lemmas.List.{length-replicate, get_or-replicate}
use Rattle.limits.specs.Limits.{most_days, rise_offset, highest_rise_code, highest_shift}
use Rattle.theory_lists.specs.Sum.{at, sum-most}
use Rattle.theory_lists.specs.First.{first}
use Rattle.theory_lists.specs.Written.{written, length-written, written_below, written-past}
use Rattle.theory_chains.specs.Sum.{weigh}
use Rattle.theory_chains.specs.Chain.{Chain}
use Rattle.theory_chains.specs.Ceilings.{chain_up}
use Rattle.theory_chains.specs.Rounds.{free}
use Rattle.theory_chains.specs.Fit.{Fitted, fitted}
use Rattle.theory_method.specs.Shift.{shift, shift-step, shift-high}
use Rattle.theory_method.specs.Counted.{counted, weigh-none}
use Rattle.theory_method.specs.Filter.{box, InBounds, carried, first_crossed, shifted, overload, lowered_from, lowered, mirrored, reversed, zeros, forwarded, lowered_all, raised}
use Rattle.theory_method.specs.Stages.{Rising, Ready, Crossing, mirrored_all, reversed_all}

-- ---- carrying

-- a choice by a test of order
pub by_order : {A : Type 0} (P : A → Type 0) (x y : ℕ) {t u : A} → (x < y → P t) → (y ≤ x → P u) → P (cond (ltb x y) t u)
by_order {A} P x y {t} {u} less more = go (ltb x y) (ltb-true x y) (ltb-false x y)
  where
    go : (s : Bool) → (s ≡ true → x < y) → (s ≡ false → y ≤ x) → P (cond s t u)
    go true l m = less (l refl)
    go false l m = more (m refl)

pub crossing : (a b : ℕ → ℕ) (n : ℕ) → Crossing a b n (first_crossed a b n)
crossing a b n =
    let f = first (λ k. ltb (b k) (a k)) n in
    record {
      most = f.most;
      before = λ k h. ltb-false (b k) (a k) (f.before k h);
      here = λ h. ltb-true (b (first_crossed a b n)) (a (first_crossed a b n)) (f.here h);
    }

module _ (fs rs : List ℕ) where
  pub carried-above : (k : ℕ) → at fs k ≤ carried fs rs k
  unfolding carried
  carried-above zero = le_refl (at fs 0)
  carried-above (suc k) = omega arith

  pub carried-rise : (k : ℕ) → carried fs rs k + at rs k ≤ carried fs rs (k + 1) + rise_offset
  unfolding carried
  carried-rise k = rw add-one (omega arith)

-- (i) floors carried past no ceiling
module _ {fs cs rs : List ℕ} {n first L U : ℕ} (b : InBounds (box fs cs rs n first L U)) (uncrossed : n ≤ first_crossed (carried fs rs) (at cs) n) where
  pub forwarded_at : (k : ℕ) → k < n → at (forwarded fs rs n) k ≡ carried fs rs k
  forwarded_at k h = written_below (carried fs rs) 0 n fs k h (omega (arith, b.floors, b.most))

  pub ready : Ready (forwarded fs rs n) cs rs n
  ready =
      record {
        some = omega (arith, b.counts);
        most = b.most;
        floors = length-written (carried fs rs) n fs ∙ b.floors;
        ceilings = b.ceilings;
        rises = b.rises;
        fits = λ k h. omega (arith, forwarded_at k h, (crossing (carried fs rs) (at cs) n).before k (omega arith));
        ceiling = b.ceiling;
        rise = b.rise;
        rising = λ k h. omega (arith, forwarded_at k (omega arith), forwarded_at (k + 1) h, carried-rise fs rs k);
      }

-- ---- lowering the ceilings

module _ {fs cs rs : List ℕ} {n : ℕ} (r : Ready fs cs rs n) where
  -- a least rise, shifted
  pub shifted-rise : (u v k : ℕ) → k + 1 < n → (u + at rs k ≤ v + rise_offset) ↔ (u + shift (at rs) n k ≤ v + shift (at rs) n (k + 1))
  shifted-rise u v k h = omega (arith, shift-step (at rs) n r.most r.rise k (omega arith))

  pub shift-most : (k : ℕ) → shift (at rs) n k ≤ highest_shift
  shift-most k = omega (arith, r.most, shift-high (at rs) n r.most r.rise (n - k) (omega arith))

  pub floors-chain : Chain n free (shifted fs rs n)
  floors-chain = record { up = ups; near = nears }
    where
      ups : (k : ℕ) → suc k < n → shifted fs rs n k ≤ shifted fs rs n (suc k)
      ups k h = rw (← add-one k) ((shifted-rise (at fs k) (at fs (k + 1)) k (omega arith)).0 (r.rising k (omega arith)))

      nears : (k : ℕ) → suc k < n → shifted fs rs n (suc k) ≤ shifted fs rs n k + 16777216
      nears k h = omega (arith, r.fits (suc k) h, r.ceiling (suc k) h, shift-most (suc k))

  module _ (w : ℕ → Bool) (margin : ℕ) where
    abbrev low-from : ℕ → ℕ
    low-from = lowered_from fs cs rs n w margin

    -- from the floor on no overload
    floor-free : (i : ℕ) → i < n → overload fs rs n w i (shifted fs rs n i) ≤ margin
    floor-free i h =
        omega (
          arith,
          sum-most (λ k. weigh (w k) (shifted fs rs n i - shifted fs rs n k)) i (n - i) 0
              (λ k l u. weigh-none (w k) (omega (arith, chain_up n free (shifted fs rs n) floors-chain i k l (omega arith)))),
        )

    -- a day whose floor is not above the next day's lowered ceiling
    from_next : (m : ℕ) → m < n → shifted fs rs n (n - suc m) ≤ low-from m
        → Fitted (overload fs rs n w (n - suc m)) margin (shifted fs rs n (n - suc m)) (min (low-from m) (shifted cs rs n (n - suc m))) (low-from (suc m))
    unfolding lowered_from
    from_next m h up =
        fitted (overload fs rs n w (n - suc m)) margin (shifted fs rs n (n - suc m)) (floor-free (n - suc m) (omega arith))
        (min (low-from m) (shifted cs rs n (n - suc m))) (omega (arith, up, r.fits (n - suc m) (omega arith)))

    from-fitted : (m : ℕ) → m < n
        → Fitted (overload fs rs n w (n - suc m)) margin (shifted fs rs n (n - suc m)) (min (low-from m) (shifted cs rs n (n - suc m))) (low-from (suc m))
    unfolding lowered_from
    from-fitted zero h = from_next 0 h (omega (arith, r.fits (n - 1) (omega arith)))
    from-fitted (suc m) h =
        let next = (from-fitted m (omega arith)).least in
        let up = chain_up n free (shifted fs rs n) floors-chain (n - suc (suc m)) (n - suc m) (omega arith) (omega arith) in
        from_next (suc m) h (omega (arith, next, up))

    -- each shifted ceiling is the greatest level up to the next day's and its own whose overload is within the margin
    pub day-fitted : (k : ℕ) → k < n
        → Fitted (overload fs rs n w k) margin (shifted fs rs n k) (min (lowered_from fs cs rs n w margin (n - (k + 1))) (shifted cs rs n k)) (lowered_from fs cs rs n w margin (n - k))
    day-fitted k h =
        let here : n - suc (n - (k + 1)) ≡ k = omega arith in
        let count : suc (n - (k + 1)) ≡ n - k = omega arith in
        rw (here, count) at (from-fitted (n - (k + 1)) (omega arith))

    -- past the last day there is only its own ceiling
    pub last-lowered : lowered_from fs cs rs n w margin 0 ≡ shifted cs rs n (n - 1)
    unfolding lowered_from
    last-lowered = refl

    -- as shown: the shift is taken off again
    pub lowered-shifted : (k : ℕ) → k < n → lowered fs cs rs n w margin k + shift (at rs) n k ≡ lowered_from fs cs rs n w margin (n - k)
    lowered-shifted k h = omega (arith, (day-fitted k h).least)

    pub lowered_at : (k : ℕ) → k < n → at (lowered_all fs cs rs n w margin) k ≡ lowered fs cs rs n w margin k
    lowered_at k h = written_below (lowered fs cs rs n w margin) 0 n cs k h (omega (arith, r.ceilings, r.most))

    -- (ii) the lowered ceilings are between the floors and the old ones, and obey the least rises
    pub lowered-above : (k : ℕ) → k < n → at fs k ≤ at (lowered_all fs cs rs n w margin) k
    lowered-above k h = omega (arith, lowered_at k h, lowered-shifted k h, (day-fitted k h).least)

    pub lowered-below : (k : ℕ) → k < n → at (lowered_all fs cs rs n w margin) k ≤ at cs k
    lowered-below k h = omega (arith, lowered_at k h, lowered-shifted k h, (day-fitted k h).most)

    pub lowered-rising : Rising (lowered_all fs cs rs n w margin) rs n
    lowered-rising k h =
        omega (
          arith,
          lowered_at k (omega arith),
          lowered_at (k + 1) h,
          (shifted-rise (lowered fs cs rs n w margin k) (lowered fs cs rs n w margin (k + 1)) k h).1
              (omega (arith, lowered-shifted k (omega arith), lowered-shifted (k + 1) h, (day-fitted k (omega arith)).most)),
        )

    pub lowered-ready : Ready fs (lowered_all fs cs rs n w margin) rs n
    lowered-ready =
        record {
          some = r.some;
          most = r.most;
          floors = r.floors;
          ceilings = length-written (lowered fs cs rs n w margin) n cs ∙ r.ceilings;
          rises = r.rises;
          fits = lowered-above;
          ceiling = λ k h. omega (arith, lowered-below k h, r.ceiling k h);
          rise = r.rise;
          rising = r.rising;
        }

-- ---- the mirror

zeros-length : length zeros ≡ most_days
zeros-length = length-replicate {A = ℕ} most_days 0

module _ (n : ℕ) (few : n ≤ most_days) where
  pub mirrored_at : (l : List ℕ) (k : ℕ) → k < n → at (mirrored_all l n) k ≡ mirrored l n k
  mirrored_at l k h = written_below (mirrored l n) 0 n zeros k h (omega (arith, zeros-length))

  pub reversed_at : (rs : List ℕ) (k : ℕ) → k + 1 < n → at (reversed_all rs n) k ≡ reversed rs n k
  reversed_at rs k h = written_below (reversed rs n) 0 (n - 1) zeros k (omega arith) (omega (arith, zeros-length))

  pub reversed-last : (rs : List ℕ) (k : ℕ) → n ≤ k + 1 → k < most_days → at (reversed_all rs n) k ≡ 0
  reversed-last rs k h l = written-past (reversed rs n) 0 (n - 1) zeros k (omega arith) ∙ get_or-replicate most_days k 0 0 l

-- (iii) the mirror of floors and ceilings that both obey the least rises can go through the same pass
pub mirrored-ready : {fs cs rs : List ℕ} {n : ℕ} → Ready fs cs rs n → Rising cs rs n → Ready (mirrored_all cs n) (mirrored_all fs n) (reversed_all rs n) n
mirrored-ready {fs} {cs} {rs} {n} r down =
    record {
      some = r.some;
      most = r.most;
      floors = length-written (mirrored cs n) n zeros ∙ zeros-length;
      ceilings = length-written (mirrored fs n) n zeros ∙ zeros-length;
      rises = length-written (reversed rs n) (n - 1) zeros ∙ zeros-length;
      fits = λ k h. omega (arith, mirrored_at n r.most cs k h, mirrored_at n r.most fs k h, r.fits (n - (k + 1)) (omega arith));
      ceiling = λ k h. omega (arith, mirrored_at n r.most fs k h);
      rise = λ k h. rise k h (dec_lt (k + 1) n);
      rising = rising;
    }
  where
    rise : (k : ℕ) → k < n → Dec (k + 1 < n) → at (reversed_all rs n) k ≤ highest_rise_code
    rise k h (yes l) = omega (arith, reversed_at n r.most rs k l, r.rise (n - (k + 2)) (omega arith))
    rise k h (no l) = omega (arith, reversed-last n r.most rs k (omega arith) (omega (arith, r.most)))

    rising : Rising (mirrored_all cs n) (reversed_all rs n) n
    rising k h =
        let here : n - (k + 1) ≡ n - (k + 2) + 1 = omega arith in
        let next : n - (k + 1 + 1) ≡ n - (k + 2) = omega arith in
        omega (
          arith,
          mirrored_at n r.most cs k (omega arith),
          mirrored_at n r.most cs (k + 1) h,
          reversed_at n r.most rs k h,
          ap (at cs) here,
          ap (at cs) next,
          r.ceiling (n - (k + 1)) (omega arith),
          down (n - (k + 2)) (omega arith),
        )

-- the raised floors are the mirror of the ceilings that the pass makes there
pub raised_is : (fs cs rs : List ℕ) (n first margin : ℕ)
    → raised fs cs rs n first margin ≡ written (mirrored (lowered_all (mirrored_all cs n) (mirrored_all fs n) (reversed_all rs n) n (counted 0 (n - first)) margin) n) n fs
unfolding raised
raised_is fs cs rs n first margin = refl
