-- Bounds as they are given, against settled ones: when there is a schedule within them, and the exact ranges then.
use Rattle.std.specs.Prelude.{◌≡◌, Bool, ℕ, ◌≤◌, ◌<◌, min, max}
use Rattle.std.proofs.Common.{le_refl, arith}
use Rattle.theory_chains.specs.Sum.{sum, sum_le}
use Rattle.theory_chains.specs.Chain.{Chain, Below}
use Rattle.theory_chains.specs.Ceilings.{ceiling, best}
use Rattle.theory_chains.specs.Floors.{floor_of}
use Rattle.theory_chains.specs.Exact.{Sched, total-taken, ceil-bounds, floor-bounds, day-taken}
use Rattle.theory_chains.specs.Settle.{Greatest, settled, capped, settled-least, settled-above, settled-chain, capped_greatest}
use Rattle.theory_chains.specs.Spans.{NatSpans}

-- the exact ceilings and floors of the days
abbrev pub high : (w : ℕ → Bool) (n : ℕ) (g a₀ b₀ : ℕ → ℕ) (U top k : ℕ) → ℕ
high w n g a₀ b₀ U top = ceiling w n g (settled n g a₀) (capped n top g b₀) U

abbrev pub low : (w : ℕ → Bool) (n : ℕ) (g a₀ b₀ : ℕ → ℕ) (L U top k : ℕ) → ℕ
low w n g a₀ b₀ L U top = floor_of w n g (settled n g a₀) (high w n g a₀ b₀ U top) L top

-- the exact ranges of the days and of the total
pub record Ranges (w : ℕ → Bool) (n : ℕ) (g a b : ℕ → ℕ) (L U : ℕ) (lo hi : ℕ → ℕ) (least most : ℕ) : Type 0 where
  pub day : (k : ℕ) → k < n → NatSpans (Sched w n g a b L U) (λ y. y k) (lo k) (hi k)
  pub total : NatSpans (Sched w n g a b L U) (sum w n) least most

module _ (w : ℕ → Bool) (n : ℕ) (g a₀ b₀ : ℕ → ℕ) (L U top : ℕ) (cap : Below n b₀ (λ _. top)) where
  abbrev a : ℕ → ℕ
  a = settled n g a₀

  abbrev b : ℕ → ℕ
  b = capped n top g b₀

  abbrev hi : ℕ → ℕ
  hi = high w n g a₀ b₀ U top

  bs : Greatest n g b₀ b
  bs = capped_greatest n top g b₀ cap

  -- the schedules within settled bounds are the same
  pub inward : (y : ℕ → ℕ) → Sched w n g a₀ b₀ L U y → Sched w n g (settled n g a₀) (capped n top g b₀) L U y
  inward y s =
      record {
        chain = s.chain;
        above = settled-least n g a₀ y s.chain s.above;
        below = bs.over y s.chain s.below;
        least = s.least;
        most = s.most;
      }

  pub outward : (y : ℕ → ℕ) → Sched w n g (settled n g a₀) (capped n top g b₀) L U y → Sched w n g a₀ b₀ L U y
  outward y s =
      record {
        chain = s.chain;
        above = λ k h. omega (arith, settled-above n g a₀ k h, s.above k h);
        below = λ k h. omega (arith, bs.below k h, s.below k h);
        least = s.least;
        most = s.most;
      }

  module _ (gaps : (k : ℕ) → 1 ≤ g k) (fits : Below n (settled n g a₀) b₀) (room : sum w n (settled n g a₀) ≤ U) where
    ca : Chain n g a
    ca = settled-chain n g a₀

    cb : Chain n g b
    cb = bs.chain

    ab : Below n a b
    ab = bs.over a ca fits

    bcap : Below n b (λ _. top)
    bcap k h = omega (arith, bs.below k h, cap k h)

    ab_sum : sum w n a ≤ sum w n b
    ab_sum = sum_le w n a b ab

    -- the ceilings under the total's ceiling keep the greatest total
    pub total_kept : min U (sum w n (high w n g a₀ b₀ U top)) ≡ min U (sum w n (capped n top g b₀))
    total_kept =
        let t = total-taken w n g gaps a b ca cb ab 0 U (omega arith) room (omega arith) top bcap (min U (sum w n b))
        (omega arith) (omega arith) (omega (arith, ab_sum)) (omega arith) in
        let up = ceil-bounds w n g gaps a b ca cb ab 0 U (omega arith) room (omega arith) top bcap t.at t.sched in
        omega (arith, sum_le w n t.at hi up, t.adds, sum_le w n hi b (λ k h. (best n g w a b ca cb ab U room k h).most))

    module _ (order : L ≤ U) (reachable : L ≤ sum w n (capped n top g b₀)) where
      totals : NatSpans (Sched w n g a₀ b₀ L U) (sum w n) (max L (sum w n a)) (min U (sum w n b))
      totals =
          record {
            some = omega (arith, ab_sum);
            inside = λ y s. let t = inward y s in (omega (arith, s.least, sum_le w n a y t.above), omega (arith, s.most, sum_le w n y b t.below));
            taken = λ v l h.
                let t = total-taken w n g gaps a b ca cb ab L U order room reachable top bcap v (omega arith) (omega arith) (omega arith) (omega arith) in
                (t.at, outward t.at t.sched, t.adds);
          }

      abbrev lo : ℕ → ℕ
      lo = low w n g a₀ b₀ L U top

      within : (y : ℕ → ℕ) → Sched w n g a₀ b₀ L U y → (k : ℕ) → k < n → (lo k ≤ y k) × (y k ≤ hi k)
      within y s k h =
          let t = inward y s in (
            floor-bounds w n g gaps a b ca cb ab L U order room reachable top bcap y t k h,
            ceil-bounds w n g gaps a b ca cb ab L U order room reachable top bcap y t k h,
          )

      pub sufficient : Ranges w n g a₀ b₀ L U (low w n g a₀ b₀ L U top) (high w n g a₀ b₀ U top)
          (max L (sum w n (settled n g a₀))) (min U (sum w n (capped n top g b₀)))
      sufficient = record { day = days; total = totals }
        where
          days : (k : ℕ) → k < n → NatSpans (Sched w n g a₀ b₀ L U) (λ y. y k) (lo k) (hi k)
          days k h =
              let one = totals.taken (max L (sum w n a)) (le_refl (max L (sum w n a))) totals.some in
              record {
                some = omega (arith, within one.0 one.1 k h);
                inside = λ y s. within y s k h;
                taken = λ v l u.
                    let t = day-taken w n g gaps a b ca cb ab L U order room reachable top bcap k v h l u in
                    (t.at, outward t.at t.sched, t.here);
              }
