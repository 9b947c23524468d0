-- Exact ranges: the ceilings first, then the floors under the lowered ceilings. Every level and every total between the bounds is taken.
use Rattle.std.specs.Prelude.{◌≡◌, Bool, ℕ, ◌≤◌, ◌<◌, max}
use Rattle.std.proofs.Common.{sym, ◌∙◌, arith}
use Rattle.theory_chains.specs.Sum.{sum, sum_le}
use Rattle.theory_chains.specs.Chain.{Chain, Below, Reached, between}
use Rattle.theory_chains.specs.Ceilings.{through, ceiling, ceiling-bounds, ceiling-taken, ceiling-chain, through_chain, through-above, through_at, through-least, best}
use Rattle.theory_chains.specs.Floors as Floors
use Rattle.theory_chains.specs.Floors.{floor_of}

-- a chain between the floors and the ceilings whose total is within
pub record Sched (w : ℕ → Bool) (n : ℕ) (g a b : ℕ → ℕ) (L U : ℕ) (y : ℕ → ℕ) : Type 0 where
  pub chain : Chain n g y
  pub above : Below n a y
  pub below : Below n y b
  pub least : L ≤ sum w n y
  pub most : sum w n y ≤ U

-- a schedule with a total, and one with a level on a day
pub record TotalTaken (w : ℕ → Bool) (n : ℕ) (g a b : ℕ → ℕ) (L U t : ℕ) : Type 0 where
  pub at : ℕ → ℕ
  pub sched : Sched w n g a b L U at
  pub adds : sum w n at ≡ t

pub record DayTaken (w : ℕ → Bool) (n : ℕ) (g a b : ℕ → ℕ) (L U i v : ℕ) : Type 0 where
  pub at : ℕ → ℕ
  pub sched : Sched w n g a b L U at
  pub here : at i ≡ v

module _ (w : ℕ → Bool) (n : ℕ) (g : ℕ → ℕ) (gaps : (k : ℕ) → 1 ≤ g k) (a b : ℕ → ℕ) (ca : Chain n g a) (cb : Chain n g b) (ab : Below n a b)
    (L U : ℕ) (lu : L ≤ U) (room : sum w n a ≤ U) (reachable : L ≤ sum w n b) (top : ℕ) (cap : Below n b (λ _. top)) where
  -- every total of the range is taken
  pub total-taken : (t : ℕ) → L ≤ t → t ≤ U → sum w n a ≤ t → t ≤ sum w n b → TotalTaken w n g a b L U t
  total-taken t l u lo hi =
      let r : Reached w n g a b t = between w n g gaps a b ca cb ab t lo hi in
      record {
        at = r.at;
        sched = record { chain = r.chain; above = r.above; below = r.below; least = omega (arith, r.adds); most = omega (arith, r.adds) };
        adds = r.adds;
      }

  abbrev ceil : ℕ → ℕ
  ceil = ceiling w n g a b U

  ceil-above : Below n a ceil
  ceil-above k h = (best n g w a b ca cb ab U room k h).least

  ceil-below : Below n ceil b
  ceil-below k h = (best n g w a b ca cb ab U room k h).most

  ceil-chain : Chain n g ceil
  ceil-chain = ceiling-chain n g w a b ca cb ab U room

  pub ceil-bounds : (y : ℕ → ℕ) → Sched w n g a b L U y → Below n y ceil
  ceil-bounds y s = ceiling-bounds n g w a b ca cb ab U room y s.chain s.above s.below s.most

  -- the lowered ceilings still reach the total's floor
  ceil_reaches : L ≤ sum w n ceil
  ceil_reaches =
      let low = total-taken (max L (sum w n a)) (omega arith) (omega arith) (omega arith) (omega (arith, sum_le w n a b ab)) in
      omega (arith, sum_le w n low.at ceil (ceil-bounds low.at low.sched), low.sched.least)

  ceil_cap : Below n ceil (λ _. top)
  ceil_cap k h = omega (arith, ceil-below k h, cap k h)

  abbrev floor : ℕ → ℕ
  floor = floor_of w n g a ceil L top

  pub floor-bounds : (y : ℕ → ℕ) → Sched w n g a b L U y → Below n floor y
  floor-bounds y s = Floors.floors_bound w n g a ceil ca ceil-chain ceil-above L ceil_reaches top ceil_cap y s.chain s.above (ceil-bounds y s) s.least

  floor-above : Below n a floor
  floor-above = Floors.floor-above w n g a ceil ca ceil-chain ceil-above L ceil_reaches top ceil_cap

  -- every level from the floor to the ceiling is taken on its day: between the least and the greatest chain there
  joined : (i : ℕ) → i < n → (low high : ℕ → ℕ) → Chain n g low → Chain n g high → Below n a low → Below n low high → Below n high ceil
      → low i ≡ high i → sum w n low ≤ U → L ≤ sum w n high → DayTaken w n g a b L U i (low i)
  joined i h low high cl ch al lh hc e lt ht =
      let r : Reached w n g low high (max L (sum w n low)) = between w n g gaps low high cl ch lh (max L (sum w n low)) (omega arith) (omega (arith, sum_le w n low high lh)) in
      record {
        at = r.at;
        sched = record {
          chain = r.chain;
          above = λ k l. omega (arith, al k l, r.above k l);
          below = λ k l. omega (arith, r.below k l, hc k l, ceil-below k l);
          least = omega (arith, r.adds);
          most = omega (arith, r.adds);
        };
        here = omega (arith, r.above i h, r.below i h);
      }

  abbrev high : ℕ → ℕ → ℕ → ℕ
  high = Floors.beneath w n g a ceil ca ceil-chain ceil-above L ceil_reaches top ceil_cap

  pub day-taken : (i v : ℕ) → i < n → floor i ≤ v → v ≤ ceil i → DayTaken w n g a b L U i v
  day-taken i v h lo hi =
      let at_low : through g a i v i ≡ v = through_at n g a i v (omega (arith, floor-above i h)) in
      let cl : Chain n g (through g a i v) = through_chain n g a ca i v in
      let lc : Below n (through g a i v) ceil = through-least n g ceil ceil-chain a ceil-above i v h hi in
      rw (sym at_low) (joined i h (through g a i v) (high i v) cl
      (Floors.below_chain w n g a ceil ca ceil-chain ceil-above L ceil_reaches top ceil_cap i v)
      (through-above n g a i v)
      (Floors.below_greatest w n g a ceil ca ceil-chain ceil-above L ceil_reaches top ceil_cap i v h (through g a i v) cl lc (omega arith))
      (Floors.below-below w n g a ceil ca ceil-chain ceil-above L ceil_reaches top ceil_cap i v)
      (at_low ∙ sym (Floors.below_at w n g a ceil ca ceil-chain ceil-above L ceil_reaches top ceil_cap i v h hi))
      (ceiling-taken n g w a b ca cb ab U room i v h hi)
      (Floors.below_total w n g a ceil ca ceil-chain ceil-above L ceil_reaches top ceil_cap i v h lo))
