-- The passes over levels, against theory_chains: lowered ceilings, shifted, are its ceilings, and raised floors its floors.
use Prim.Native.Nat.{ℕ, zero, suc, ◌+◌, ◌-◌, ◌≤◌, ◌<◌, min}
use mathlib.Core.Path.{◌≡◌, refl, ap, sym, ◌∙◌}
use mathlib.Core.Bool.{Bool}
use mathlib.Core.List.{List}
use native.Mathlib.Numerals.{add-one}
use native.Mathlib.Omega.{arith}
use native.Mathlib.Decide.{dec_le}
use Rattle.theory_lists.specs.Sum.{sum_for, at, sum-none, sum_back}
use Rattle.theory_lists.specs.Written.{written_below}
use Rattle.theory_chains.specs.Sum.{sum, weigh}
use Rattle.theory_chains.specs.Chain.{Chain, Below}
use Rattle.theory_chains.specs.Fit.{fitted-same}
use Rattle.theory_chains.specs.Ceilings.{ceiling}
use Rattle.theory_chains.specs.Mirror.{mirror, backward, sum-weigh_eq, flip-flip, mirror-sum, mirror-chain}
use Rattle.theory_chains.specs.Floors.{floor_of}
use Rattle.theory_chains.specs.Settle.{Greatest, chain_greatest}
use Rattle.theory_chains.specs.Rounds.{free, from, from-same, weigh-from, weigh-before}
use Rattle.theory_chains.specs.Rounds as Rounds
use Rattle.theory_chains.specs.Free.{next-ceiling}
use Rattle.theory_method.specs.Shift.{shift, shift-step}
use Rattle.theory_method.specs.Counted.{counted, run_sum, counted-mirror}
use Rattle.theory_method.specs.Filter.{shifted, overload, lowered_from, lowered_all, mirrored, raised}
use Rattle.theory_method.specs.Stages.{Ready, Rising, mirrored_all, reversed_all}
use Rattle.theory_method.proofs.Stages.{shift-most, last-lowered, day-fitted, lowered-shifted, lowered_at, lowered-ready, mirrored_at, reversed_at, mirrored-ready, raised_is}

-- a run's counted sum is that of the counted days from i on
from-sum : (w : ℕ → Bool) (f : ℕ → ℕ) (i n : ℕ) → sum (from i w) n f ≡ run_sum w f i (n - i)
from-sum w f i zero = let e : 0 - i ≡ 0 = omega arith in rw (e, sum-none)
from-sum w f i (suc n) = go (dec_le i n) (from-sum w f i n)
  where
    g : ℕ → ℕ
    g k = weigh (w k) (f k)

    go : Dec (i ≤ n) → sum (from i w) n f ≡ sum_for g i (n - i) → sum (from i w) n f + weigh (from i w n) (f n) ≡ sum_for g i (suc n - i)
    go (yes h) before =
        let e : suc n - i ≡ n - i + 1 = omega arith in
        let last : i + (n - i) ≡ n = omega arith in
        rw e (omega (arith, sum_back g i (n - i), ap g last, weigh-from w i n (f n) h))
    go (no h) before =
        let e : suc n - i ≡ n - i = omega arith in
        rw e (omega (arith, weigh-before w i n (f n) (omega arith)))

-- what lowering the ceilings takes, with U for the sum: shifted, a are the floors, which keep the rises, and b₀ the ceilings; b is the greatest below them
-- that keeps the rises; w and w' say which days count, and agree on all n
pub record Lowering (fs cs rs : List ℕ) (n : ℕ) (w w' : ℕ → Bool) (a b₀ b : ℕ → ℕ) (U margin : ℕ) : Type 0 where
  pub ready : Ready fs cs rs n
  pub counts : (k : ℕ) → k < n → w k ≡ w' k
  pub floors : (k : ℕ) → k < n → a k ≡ shifted fs rs n k
  pub ceilings : (k : ℕ) → k < n → b₀ k ≡ shifted cs rs n k
  pub chain : Chain n free a
  pub greatest : Greatest n free b₀ b
  pub room : sum w n a ≤ U
  pub margin_is : margin ≡ U - sum w n a

module _ {fs cs rs : List ℕ} {n : ℕ} {w w' : ℕ → Bool} {a b₀ b : ℕ → ℕ} {U margin : ℕ} (d : Lowering fs cs rs n w w' a b₀ b U margin) where
  load : (i v : ℕ) → overload fs rs n w' i v ≡ Rounds.overload_from w n a i v
  load i v =
      sym (from-sum w' (λ k. v - shifted fs rs n k) i n)
      ∙ sum-weigh_eq (from i w') (from i w) n (λ k. v - shifted fs rs n k) (λ k. v - a k)
      (λ k h. cc (from-same i k w w' (d.counts k h), ap (λ (x : ℕ). v - x) (d.floors k h)))

  ceiling-from : (m k : ℕ) → k < n → n - k ≤ m → lowered_from fs cs rs n w' margin (n - k) ≡ ceiling w n free a b U k
  ceiling-from zero k h few = absurd (omega arith)
  ceiling-from (suc m) k h few =
      let r = d.ready in
      let f = fitted-same (day-fitted r w' margin k h) (load k) d.margin_is (sym (d.floors k h)) (ap (min (lowered_from fs cs rs n w' margin (n - (k + 1)))) (sym (d.ceilings k h))) in
      next-ceiling w n a b₀ b (λ j l. omega (arith, d.ceilings j l, r.ceiling j l, shift-most r j)) d.chain d.greatest
      (λ j l. omega (arith, d.floors j l, d.ceilings j l, r.fits j l)) U d.room k h (lowered_from fs cs rs n w' margin (n - k)) (lowered_from fs cs rs n w' margin (n - (k + 1)))
      (λ l. rw add-one (ceiling-from m (suc k) l (omega arith))) (λ e. last e ∙ sym (d.ceilings k h)) f
    where
      last : suc k ≡ n → lowered_from fs cs rs n w' margin (n - (k + 1)) ≡ shifted cs rs n k
      last e =
          let none : n - (k + 1) ≡ 0 = omega arith in
          let here : n - 1 ≡ k = omega arith in
          rw (none, last-lowered d.ready w' margin, here)

  pub ceilings_are : (k : ℕ) → k < n → ceiling w n free a b U k ≡ shifted (lowered_all fs cs rs n w' margin) rs n k
  ceilings_are k h = omega (arith, ceiling-from n k h (omega arith), lowered-shifted d.ready w' margin k h, lowered_at d.ready w' margin k h)

-- ---- floors, as the mirror

-- the shifted scale's upper end: where the mirror of a shifted level, shifted, is the shifted mirror
abbrev pub scale : List ℕ → ℕ → ℕ
scale rs n = 5000 + (shift (at (reversed_all rs n)) n 0 + shift (at rs) n (n - 1))

module _ {fs cs rs : List ℕ} {n : ℕ} (r : Ready fs cs rs n) (down : Rising cs rs n) where
  abbrev sh* : ℕ → ℕ
  sh* = shift (at (reversed_all rs n)) n

  abbrev sh : ℕ → ℕ
  sh = shift (at rs) n

  r* : Ready (mirrored_all cs n) (mirrored_all fs n) (reversed_all rs n) n
  r* = mirrored-ready r down

  shifts_mirror : (k : ℕ) → k < n → 5000 + (sh* k + sh (n - suc k)) ≡ scale rs n
  shifts_mirror zero h = refl
  shifts_mirror (suc k) h =
      let next : n - (k + 2) ≡ n - suc (suc k) = omega arith in
      let here : n - (k + 2) + 1 ≡ n - suc k = omega arith in
      omega (
        arith,
        shifts_mirror k (omega arith),
        rw add-one at (shift-step (at (reversed_all rs n)) n r.most r*.rise k (omega arith)),
        reversed_at n r.most rs k (omega arith),
        shift-step (at rs) n r.most r.rise (n - (k + 2)) (omega arith),
        ap sh next,
        ap sh here,
      )

  floor_cap : (k : ℕ) → k < n → at fs k ≤ 5000
  floor_cap k h = omega (arith, r.fits k h, r.ceiling k h)

  -- the mirror of shifted levels
  mirror-shifted : (l : List ℕ) (y : ℕ → ℕ) → ((k : ℕ) → k < n → y k ≡ shifted l rs n k) → ((k : ℕ) → k < n → at l k ≤ 5000)
      → (k : ℕ) → k < n → mirror n (scale rs n) y k ≡ shifted (mirrored_all l n) (reversed_all rs n) n k
  mirror-shifted l y y-is few k h =
      omega (arith, shifts_mirror k h, y-is (n - suc k) (omega arith), few (n - suc k) (omega arith), rw add-one at (mirrored_at n r.most l k h))

  pub within_scale : (l : List ℕ) (y : ℕ → ℕ) → ((k : ℕ) → k < n → y k ≡ shifted l rs n k) → ((k : ℕ) → k < n → at l k ≤ 5000) → Below n y (λ _. scale rs n)
  within_scale l y y-is few k h = omega (arith, shifts_mirror (n - suc k) (omega arith), ap sh (flip-flip n k h), y-is k h, few k h)

-- what raising the floors takes, with L for the sum: shifted, a are the floors and c the ceilings, and both keep the rises
pub record Raising (fs cs rs : List ℕ) (n first : ℕ) (a c : ℕ → ℕ) (L margin : ℕ) : Type 0 where
  pub ready : Ready fs cs rs n
  pub rising : Rising cs rs n
  pub floors : (k : ℕ) → k < n → a k ≡ shifted fs rs n k
  pub ceilings : (k : ℕ) → k < n → c k ≡ shifted cs rs n k
  pub chain : Chain n free a
  pub high-chain : Chain n free c
  pub reachable : L ≤ sum (counted first n) n c
  pub margin_is : margin ≡ sum (counted first n) n c - L

module _ {fs cs rs : List ℕ} {n first : ℕ} {a c : ℕ → ℕ} {L margin : ℕ} (d : Raising fs cs rs n first a c L margin) where
  abbrev top : ℕ
  top = scale rs n

  acap : Below n a (λ _. top)
  acap = within_scale d.ready d.rising fs a d.floors (floor_cap d.ready d.rising)

  ccap : Below n c (λ _. top)
  ccap = within_scale d.ready d.rising cs c d.ceilings d.ready.ceiling

  abbrev high* : List ℕ
  high* = lowered_all (mirrored_all cs n) (mirrored_all fs n) (reversed_all rs n) n (counted 0 (n - first)) margin

  ceilings* : (k : ℕ) → k < n → ceiling (backward n (counted first n)) n free (mirror n top c) (mirror n top a) (sum (counted first n) n (λ _. top) - L) k ≡ shifted high* (reversed_all rs n) n k
  ceilings* =
      let whole = mirror-sum (counted first n) n top c ccap in
      ceilings_are
      (record {
        ready = r* d.ready d.rising;
        counts = counted-mirror first n;
        floors = mirror-shifted d.ready d.rising cs c d.ceilings d.ready.ceiling;
        ceilings = mirror-shifted d.ready d.rising fs a d.floors (floor_cap d.ready d.rising);
        chain = mirror-chain n top free c d.high-chain ccap;
        greatest = chain_greatest (mirror-chain n top free a d.chain acap);
        room = omega (arith, whole, d.reachable);
        margin_is = omega (arith, whole, d.reachable, d.margin_is);
      })

  raised_at : (k : ℕ) → k < n → at (raised fs cs rs n first margin) k ≡ 5000 - at high* (n - suc k)
  raised_at k h = rw (raised_is, written_below (mirrored high* n) 0 n fs k h (omega (arith, d.ready.floors, d.ready.most)), add-one)

  pub floors_are : (k : ℕ) → k < n → floor_of (counted first n) n free a c L (scale rs n) k ≡ shifted (raised fs cs rs n first margin) rs n k
  floors_are k h =
      omega (
        arith,
        raised_at k h,
        ceilings* (n - suc k) (omega arith),
        shifts_mirror d.ready d.rising (n - suc k) (omega arith),
        ap (shift (at rs) n) (flip-flip n k h),
        (lowered-ready (r* d.ready d.rising) (counted 0 (n - first)) margin).ceiling (n - suc k) (omega arith),
      )
