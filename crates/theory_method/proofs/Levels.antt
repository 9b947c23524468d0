-- Levels that keep to the rules, in bounds again with other ranges, and shifted to a schedule of `chains` and back.
use Rattle.std.specs.Prelude.{ℕ, zero, suc, ◌+◌, ◌-◌, ◌≤◌, ◌<◌, ◌≡◌, Bool, true, List, length, set}
use Rattle.std.proofs.Common.{◌∙◌, add-one, arith, length-set}
use Rattle.limits.specs.Limits.{most_days, highest_level, highest_total_code}
use Rattle.theory_lists.specs.Sum.{at}
use Rattle.theory_lists.specs.Written.{by_cell}
use Rattle.theory_chains.specs.Sum.{sum, sum_eq}
use Rattle.theory_chains.specs.Chain.{Below}
use Rattle.theory_chains.specs.Mirror.{sum_add}
use Rattle.theory_chains.specs.Exact.{Sched}
use Rattle.theory_chains.specs.Rounds.{free}
use Rattle.theory_chains.specs.Spans.{NatSpans, spans_moved}
use Rattle.theory_method.specs.Shift.{shift, shift-low}
use Rattle.theory_method.specs.Counted.{counted, counted-last}
use Rattle.theory_method.specs.Filter.{Box, box, all_counted, InBounds, shifted, spare, held}
use Rattle.theory_method.specs.Stages.{Ready}
use Rattle.theory_method.proofs.Stages.{shifted-rise, shift-most}
use Rattle.theory_method.specs.Levels.{Levels, shifted_total}

-- other ranges in bounds, the same rises
pub refit : {fs gs cs ds rs : List ℕ} {n first L L' U U' : ℕ} → InBounds (box fs cs rs n first L U) → length gs ≡ most_days → length ds ≡ most_days → ((k : ℕ) → k < n → at gs k ≤ highest_level)
    → ((k : ℕ) → k < n → at ds k ≤ highest_level) → L' ≤ highest_total_code → U' ≤ highest_total_code → InBounds (box gs ds rs n first L' U')
refit b floors ceilings floor ceiling lowest highest = record {
  counts = b.counts;
  most = b.most;
  floors = floors;
  ceilings = ceilings;
  rises = b.rises;
  floor = floor;
  ceiling = ceiling;
  rise = b.rise;
  lowest = lowest;
  highest = highest;
}

-- in bounds with every day counted, and with a first counted day in the profile
pub recount : {b : Box} → InBounds (all_counted b) → b.first < b.days → InBounds b
recount b counts = record {
  counts = counts;
  most = b.most;
  floors = b.floors;
  ceilings = b.ceilings;
  rises = b.rises;
  floor = b.floor;
  ceiling = b.ceiling;
  rise = b.rise;
  lowest = b.lowest;
  highest = b.highest;
}

-- the range of one day set to one level
pub refit-day : {fs cs rs : List ℕ} {n first L U : ℕ} → InBounds (box fs cs rs n first L U) → (d v : ℕ) → d < n → v ≤ highest_level → InBounds (box (set fs d v) (set cs d v) rs n first L U)
refit-day {fs} {cs} b d v h small =
    refit b (length-set fs d v ∙ b.floors) (length-set cs d v ∙ b.ceilings)
    (λ k l. by_cell (λ _ a. a ≤ highest_level) 0 fs d v (omega (arith, b.floors, b.most)) small k (b.floor k l))
    (λ k l. by_cell (λ _ a. a ≤ highest_level) 0 cs d v (omega (arith, b.ceilings, b.most)) small k (b.ceiling k l)) b.lowest b.highest

-- levels within other bounds, the same rises
pub rebound : {fs gs cs ds rs : List ℕ} {n first L L' U U' : ℕ} {x : ℕ → ℕ} → Levels (box fs cs rs n first L U) x → ((k : ℕ) → k < n → at gs k ≤ x k) → ((k : ℕ) → k < n → x k ≤ at ds k)
    → L' ≤ held n first x → held n first x ≤ U' → Levels (box gs ds rs n first L' U') x
rebound l floor ceiling least most = record { floor = floor; ceiling = ceiling; rise = l.rise; least = least; most = most }

sum-last : (w : ℕ → Bool) (n : ℕ) (y : ℕ → ℕ) → 0 < n → w (n - 1) ≡ true → y (n - 1) ≤ sum w n y
sum-last w zero y h t = absurd (omega arith)
sum-last w (suc m) y h t =
    let e : suc m - 1 ≡ m = omega arith in
    let u : w m ≡ true = rw e at t in
    rw (e, u) (omega arith)

module _ {fs cs rs : List ℕ} {n first : ℕ} (r : Ready fs cs rs n) (counts : first < n) where
  abbrev sh : ℕ → ℕ
  sh = shift (at rs) n

  -- the counted shifts are more than what is held for the days that the counted ones are less
  pub shifts_low : spare n first ≤ sum (counted first n) n (shift (at rs) n)
  unfolding spare
  shifts_low =
      omega (arith, r.some, sum-last (counted first n) n sh r.some (counted-last first n counts), shift-low (at rs) n r.most r.rise (n - (n - 1)) (omega arith))

  pub shifted_sum : (x : ℕ → ℕ) → sum (counted first n) n (λ k. x k + shift (at rs) n k) ≡ sum (counted first n) n x + sum (counted first n) n (shift (at rs) n)
  shifted_sum x = sum_add (counted first n) n x sh

  unshifted-sum : (y : ℕ → ℕ) → Below n (shift (at rs) n) y → sum (counted first n) n (λ k. y k - shift (at rs) n k) + sum (counted first n) n (shift (at rs) n) ≡ sum (counted first n) n y
  unshifted-sum y h =
      let e : sum (counted first n) n (λ k. (y k - sh k) + sh k) ≡ sum (counted first n) n y = sum_eq (counted first n) n (λ k. (y k - sh k) + sh k) y (λ k l. omega (arith, h k l)) in
      omega (arith, sum_add (counted first n) n (λ k. y k - sh k) sh)

  module _ (L U : ℕ) where
    abbrev S : (ℕ → ℕ) → Type 0
    S = Sched (counted first n) n free (shifted fs rs n) (shifted cs rs n) (shifted_total rs n first L) (shifted_total rs n first U)

    pub shifted-sched : (x : ℕ → ℕ) → Levels (box fs cs rs n first L U) x
        → Sched (counted first n) n free (shifted fs rs n) (shifted cs rs n) (shifted_total rs n first L) (shifted_total rs n first U) (λ k. x k + shift (at rs) n k)
    shifted-sched x l =
        record {
          chain = record {
            up = λ k h. rw (← add-one k) ((shifted-rise r (x k) (x (k + 1)) k (omega arith)).0 (l.rise k (omega arith)));
            near = λ k h. omega (arith, l.ceiling (suc k) h, r.ceiling (suc k) h, shift-most r (suc k));
          };
          above = λ k h. omega (arith, l.floor k h);
          below = λ k h. omega (arith, l.ceiling k h);
          least = omega (arith, shifted_sum x, shifts_low, l.least);
          most = omega (arith, shifted_sum x, shifts_low, l.most);
        }

    over : (y : ℕ → ℕ) → S y → Below n sh y
    over y s k h = omega (arith, s.above k h)

    unshifted : (y : ℕ → ℕ) → S y → Levels (box fs cs rs n first L U) (λ k. y k - shift (at rs) n k)
    unshifted y s =
        record {
          floor = λ k h. omega (arith, s.above k h);
          ceiling = λ k h. omega (arith, s.below k h);
          rise = λ k h. (shifted-rise r (y k - sh k) (y (k + 1) - sh (k + 1)) k h).1 (rise k h);
          least = omega (arith, unshifted-sum y (over y s), shifts_low, s.least);
          most = omega (arith, unshifted-sum y (over y s), shifts_low, s.most);
        }
      where
        rise : (k : ℕ) → k + 1 < n → (y k - sh k) + sh k ≤ (y (k + 1) - sh (k + 1)) + sh (k + 1)
        rise k h = omega (arith, over y s k (omega arith), over y s (k + 1) h, rw (← add-one k) at (s.chain.up k (omega arith)))

    -- the ranges of the shifted schedules, moved back
    pub day_spans : (k : ℕ) → k < n → {lo hi : ℕ} (floor ceiling : ℕ)
        → NatSpans (Sched (counted first n) n free (shifted fs rs n) (shifted cs rs n) (shifted_total rs n first L) (shifted_total rs n first U)) (λ y. y k) lo hi
        → floor + shift (at rs) n k ≡ lo → ceiling + shift (at rs) n k ≡ hi → NatSpans (Levels (box fs cs rs n first L U)) (λ x. x k) floor ceiling
    day_spans k h floor ceiling s low high =
        spans_moved (sh k) 0 s (λ x l. ((λ j. x j + sh j), shifted-sched x l, omega arith)) (λ y l. ((λ j. y j - sh j), unshifted y l, omega (arith, over y l k h)))
        (omega arith) (omega arith)

    pub total_spans : {lo hi : ℕ} (least most : ℕ)
        → NatSpans (Sched (counted first n) n free (shifted fs rs n) (shifted cs rs n) (shifted_total rs n first L) (shifted_total rs n first U)) (sum (counted first n) n) lo hi
        → least + sum (counted first n) n (shift (at rs) n) ≡ lo + spare n first → most + sum (counted first n) n (shift (at rs) n) ≡ hi + spare n first
        → NatSpans (Levels (box fs cs rs n first L U)) (held n first) least most
    total_spans least most s =
        spans_moved (sum (counted first n) n sh) (spare n first) s (λ x l. ((λ j. x j + sh j), shifted-sched x l, omega (arith, shifted_sum x)))
        (λ y l. ((λ j. y j - sh j), unshifted y l, omega (arith, unshifted-sum y (over y l))))
