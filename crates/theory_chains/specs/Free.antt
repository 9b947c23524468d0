-- The first tank: no largest rises. Each ceiling is worked out from the next day's.
use Rattle.std.specs.Prelude.{◌≡◌, Bool, ℕ, suc, ◌+◌, ◌-◌, ◌≤◌, ◌<◌, min}
use Rattle.std.proofs.Common.{arith}
use Rattle.std.proofs.Math.Decide.{dec_lt, ℕ_discrete}
use Rattle.theory_chains.specs.Sum.{sum}
use Rattle.theory_chains.specs.Chain.{Chain, Below}
use Rattle.theory_chains.specs.Fit.{Fitted}
use Rattle.theory_chains.specs.Ceilings.{through, cost, ceiling, best, ceiling-bounds, ceiling-chain, through_chain, through-above, through_at, chain_up}
use Rattle.theory_chains.specs.Settle.{Greatest}
use Rattle.theory_chains.specs.Rounds.{free, overload_from, cost-overload, reach-free}

module _ (w : ℕ → Bool) (n : ℕ) (a b₀ b : ℕ → ℕ) (small : Below n b₀ free) (ca : Chain n free a) (bs : Greatest n free b₀ b)
    (fits : Below n a b₀) (U : ℕ) (room : sum w n a ≤ U) where
  abbrev hi : ℕ → ℕ
  hi = ceiling w n free a b U

  cb : Chain n free b
  cb = bs.chain

  ab : Below n a b
  ab = bs.over a ca fits

  hi_chain : Chain n free hi
  hi_chain = ceiling-chain n free w a b ca cb ab U room

  hi_best : (i : ℕ) → i < n → Fitted (cost w n free a i) U (a i) (b i) (hi i)
  hi_best = best n free w a b ca cb ab U room

  hi_below : Below n hi b₀
  hi_below k h = omega (arith, (hi_best k h).most, bs.below k h)

  module _ (i : ℕ) (h : i < n) where
    -- a level of day i up to its ceiling and the next day's lowered one keeps the least chain through it below the ceilings
    under : (v : ℕ) → v ≤ b₀ i → (suc i < n → v ≤ hi (suc i)) → Below n (through free a i v) b₀
    under v here next k l = go (dec_lt k i) (ℕ_discrete k i)
      where
        go : Dec (k < i) → Dec (k ≡ i) → through free a i v k ≤ b₀ k
        go (yes m) d = omega (arith, reach-free i, reach-free k, fits k l, small i h)
        go (no m) (yes e) = rw e (omega (arith, fits i h))
        go (no m) (no e) = omega (arith, fits k l, next (omega arith), chain_up n free hi hi_chain (suc i) k (omega arith) l, hi_below k l)

    -- so day i's ceiling is the greatest level up to those two whose overload is within the margin; m is the next day's, and past the last day its own
    pub next-ceiling : (v m : ℕ) → (suc i < n → m ≡ ceiling w n free a b U (suc i)) → (suc i ≡ n → m ≡ b₀ i)
        → Fitted (overload_from w n a i) (U - sum w n a) (a i) (min m (b₀ i)) v → v ≡ ceiling w n free a b U i
    next-ceiling v m next last f = go (dec_lt (hi i) v) (dec_lt v (hi i))
      where
        load : (u : ℕ) → u ≤ b₀ i → cost w n free a i u ≡ sum w n a + overload_from w n a i u
        load u l = cost-overload a w i u (omega (arith, small i h)) n

        within : Dec (suc i < n) → hi i ≤ min m (b₀ i)
        within (yes l) = omega (arith, hi_chain.up i l, next l, hi_below i h)
        within (no l) = omega (arith, last (omega arith), hi_below i h)

        go : Dec (hi i < v) → Dec (v < hi i) → v ≡ hi i
        go (no l) (no u) = omega arith
        go (no l) (yes u) = absurd (omega (arith, f.past (hi i) u (within (dec_lt (suc i) n)), load (hi i) (hi_below i h), (hi_best i h).within))
        go (yes l) d =
            let y = through free a i v in
            let cy : Chain n free y = through_chain n free a ca i v in
            let yb : Below n y b = bs.over y cy (under v (omega (arith, f.most)) (λ u. omega (arith, f.most, next u))) in
            absurd (omega (
              arith,
              ceiling-bounds n free w a b ca cb ab U room y cy (through-above n free a i v) yb (omega (arith, load v (omega (arith, f.most)), f.within)) i h,
              through_at n free a i v f.least,
            ))
