-- The floors that a total's floor allows, as ceilings of the mirror. Nothing of `Ceilings` is proved again.
use Rattle.std.specs.Prelude.{◌≡◌, Bool, ℕ, suc, ◌+◌, ◌-◌, ◌≤◌, ◌<◌}
use Rattle.std.proofs.Common.{ap, arith}
use Rattle.theory_chains.specs.Sum.{sum, sum_le}
use Rattle.theory_chains.specs.Chain.{Chain, Below}
use Rattle.theory_chains.specs.Fit.{Fitted}
use Rattle.theory_chains.specs.Ceilings.{cost, through, ceiling, ceiling-bounds, ceiling-taken, through_chain, through_at, through-least, best}
use Rattle.theory_chains.specs.Mirror.{mirror, flip, backward, steps, mirror-below, mirror-chain, mirror-sum, flip-flip, mirror-sum-back, swap}

-- the least level of day k, down to its floor in a, whose greatest chain below the ceilings c reaches the total's floor
abbrev pub floor_of : (w : ℕ → Bool) (n : ℕ) (g a c : ℕ → ℕ) (L top k : ℕ) → ℕ
floor_of w n g a c L top k = top - ceiling (backward n w) n (steps n g) (mirror n top c) (mirror n top a) (sum w n (λ _. top) - L) (flip n k)

-- two bounds on the rises that agree below day n
chain_same : (n : ℕ) (g h y : ℕ → ℕ) → ((k : ℕ) → suc k < n → g k ≡ h k) → Chain n g y → Chain n h y
chain_same n g h y e cy = record { up = cy.up; near = λ k l. omega (arith, cy.near k l, e k l) }

steps-steps : (n : ℕ) (g : ℕ → ℕ) (k : ℕ) → suc k < n → steps n (steps n g) k ≡ g k
steps-steps n g k l = ap g (omega arith)

-- back from the mirror
pub unmirror : (n top : ℕ) (g y : ℕ → ℕ) → Chain n (steps n g) y → Below n y (λ _. top) → Chain n g (mirror n top y)
unmirror n top g y cy cap = chain_same n (steps n (steps n g)) g (mirror n top y) (steps-steps n g) (mirror-chain n top (steps n g) y cy cap)

module _ (w : ℕ → Bool) (n : ℕ) (g a c : ℕ → ℕ) (ca : Chain n g a) (cc' : Chain n g c) (ac : Below n a c)
    (L : ℕ) (reachable : L ≤ sum w n c) (top : ℕ) (cap : Below n c (λ _. top)) where
  a_cap : Below n a (λ _. top)
  a_cap k h = omega (arith, ac k h, cap k h)

  abbrev w* : ℕ → Bool
  w* = backward n w

  abbrev g* : ℕ → ℕ
  g* = steps n g

  abbrev a* : ℕ → ℕ
  a* = mirror n top c

  abbrev b* : ℕ → ℕ
  b* = mirror n top a

  abbrev U* : ℕ
  U* = sum w n (λ _. top) - L

  ca* : Chain n g* a*
  ca* = mirror-chain n top g c cc' cap

  cb* : Chain n g* b*
  cb* = mirror-chain n top g a ca a_cap

  ab* : Below n a* b*
  ab* = mirror-below n top a c ac

  room* : sum w* n a* ≤ U*
  room* = omega (arith, mirror-sum w n top c cap, reachable)

  abbrev ceil* : ℕ → ℕ
  ceil* = ceiling w* n g* a* b* U*

  abbrev floor : ℕ → ℕ
  floor = floor_of w n g a c L top

  pub floors_bound : (y : ℕ → ℕ) → Chain n g y → Below n a y → Below n y c → L ≤ sum w n y → Below n floor y
  floors_bound y cy ay yc t k h =
      let ycap : Below n y (λ _. top) = λ m l. omega (arith, yc m l, cap m l) in
      let met : Below n (mirror n top y) ceil* =
      ceiling-bounds n g* w* a* b* ca* cb* ab* U* room* (mirror n top y) (mirror-chain n top g y cy ycap)
      (mirror-below n top y c yc) (mirror-below n top a y ay) (omega (arith, mirror-sum w n top y ycap)) in
      omega (arith, met (flip n k) (omega arith), ycap k h, ap y (flip-flip n k h))

  -- the floor lies between the floor it came from and the ceiling
  best* : (k : ℕ) → k < n → Fitted (cost w* n g* a* (flip n k)) U* (a* (flip n k)) (b* (flip n k)) (ceil* (flip n k))
  best* k h = best n g* w* a* b* ca* cb* ab* U* room* (flip n k) (omega arith)

  pub floor-above : Below n a floor
  floor-above k h = omega (arith, (best* k h).most, ap a (flip-flip n k h), a_cap k h)

  -- ---- the greatest chain below the ceilings that is at v on day i
  abbrev pub beneath : ℕ → ℕ → ℕ → ℕ
  beneath i v = mirror n top (through g* a* (flip n i) (top - v))

  through*_cap : (i v : ℕ) → Below n (through g* a* (flip n i) (top - v)) (λ _. top)
  through*_cap i v k l = omega arith

  pub below_chain : (i v : ℕ) → Chain n g (beneath i v)
  below_chain i v = unmirror n top g (through g* a* (flip n i) (top - v)) (through_chain n g* a* ca* (flip n i) (top - v)) (through*_cap i v)

  pub below-below : (i v : ℕ) → Below n (beneath i v) c
  below-below i v k h = omega (arith, ap c (flip-flip n k h), cap k h)

  pub below_at : (i v : ℕ) → i < n → v ≤ c i → beneath i v i ≡ v
  below_at i v h l =
      let e : through g* a* (flip n i) (top - v) (flip n i) ≡ top - v = through_at n g* a* (flip n i) (top - v) (omega (arith, ap c (flip-flip n i h))) in
      omega (arith, cap i h)

  pub below_greatest : (i v : ℕ) → i < n → (y : ℕ → ℕ) → Chain n g y → Below n y c → y i ≤ v → Below n y (beneath i v)
  below_greatest i v h y cy yc l k u =
      let ycap : Below n y (λ _. top) = λ m q. omega (arith, yc m q, cap m q) in
      let least = through-least n g* (mirror n top y) (mirror-chain n top g y cy ycap) a* (mirror-below n top y c yc) (flip n i) (top - v) (omega arith) (omega (arith, ap y (flip-flip n i h))) in
      swap (least (flip n k) (omega arith)) (ap y (flip-flip n k u)) (ycap k u)

  pub below_total : (i v : ℕ) → i < n → floor i ≤ v → L ≤ sum w n (beneath i v)
  below_total i v h l =
      let under : sum w* n (through g* a* (flip n i) (top - v)) ≤ U* = ceiling-taken n g* w* a* b* ca* cb* ab* U* room* (flip n i) (top - v) (omega arith) (omega arith) in
      let whole : sum w n (beneath i v) + sum w* n (through g* a* (flip n i) (top - v)) ≡ sum w n (λ _. top) = mirror-sum-back w n top (through g* a* (flip n i) (top - v)) (through*_cap i v) in
      let most : sum w n c ≤ sum w n (λ _. top) = sum_le w n c (λ _. top) cap in
      omega arith
