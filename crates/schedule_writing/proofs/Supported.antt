-- Ranges each of whose values is taken: the levels that are written keep them, and have the value asked for.
use Prim.Native.Nat.{ℕ, ◌+◌, ◌≤◌, ◌<◌, max}
use mathlib.Core.Path.{◌≡◌}
use mathlib.Core.List.{List}
use native.Mathlib.Nat.{le_refl}
use native.Mathlib.Omega.{arith}
use native.Mathlib.Decide.{dec_lt}
use lib.ListN.{length, set}
use lib.Seq.{get_or-set_same}
use Rattle.theory_lists.specs.Sum.{at}
use Rattle.theory_lists.specs.Written.{by_cell}
use Rattle.theory_chains.specs.Sum.{sum_le}
use Rattle.theory_chains.specs.Spans.{NatSpans}
use Rattle.theory_method.specs.Counted.{counted}
use Rattle.theory_method.specs.Filter.{box, carried, first_crossed, forwarded, held}
use Rattle.theory_method.specs.Levels.{Levels}
use Rattle.theory_method.proofs.Levels.{refit-day, rebound}
use Rattle.theory_method.specs.Stages.{Ready, Rising}
use Rattle.theory_method.proofs.Stages.{crossing, carried-above, forwarded_at, ready}
use Rattle.theory_method.proofs.Exact.{carried-least}
use Rattle.session.specs.Showing.{Fits}
use Rattle.session.proofs.Within.{Within}
use Rattle.session.specs.declared.Ranges.{Ranges}
use Rattle.schedule_raising.specs.Raising.{raised_to}
use Rattle.schedule_raising.proofs.Levels.{raised_levels}

pub record Supported (rs : List ℕ) (n first : ℕ) (r : Ranges) : Type 0 where
  pub bounds : Fits rs n first r
  pub day : (k : ℕ) → k < n → NatSpans (Within rs n first r) (λ x. x k) (at r.floors k) (at r.ceilings k)
  pub total : NatSpans (Within rs n first r) (held n first) r.lowest r.highest

module _ {rs : List ℕ} {n first : ℕ} {r : Ranges} (s : Supported rs n first r) where
  -- their floors keep the rises
  floors-rising : Rising r.floors rs n
  floors-rising k h =
      let z = (s.day (k + 1) h).taken (at r.floors (k + 1)) (le_refl (at r.floors (k + 1))) (s.day (k + 1) h).some in
      omega (arith, z.1.rise k h, z.1.floor k (omega arith), z.2)

  floors-ready : Ready r.floors r.ceilings rs n
  floors-ready = record {
    some = omega (arith, s.bounds.counts);
    most = s.bounds.most;
    floors = s.bounds.floors;
    ceilings = s.bounds.ceilings;
    rises = s.bounds.rises;
    fits = λ k h. (s.day k h).some;
    ceiling = s.bounds.ceiling;
    rise = s.bounds.rise;
    rising = floors-rising;
  }

  -- ---- with a total

  pub with_total : (v : ℕ) → r.lowest ≤ v → v ≤ r.highest
      → Within rs n first r (raised_to r.floors r.ceilings rs n first v) × (held n first (raised_to r.floors r.ceilings rs n first v) ≡ v)
  with_total v low high =
      let z = s.total.taken v low high in
      let l = raised_levels floors-ready s.bounds.counts v r.highest z.0 (rebound z.1 z.1.floor z.1.ceiling (omega (arith, z.2)) z.1.most) in
      let under = sum_le (counted first n) n (at r.floors) z.0 z.1.floor in
      (rebound l l.floor l.ceiling (omega (arith, l.least)) (omega (arith, l.most, z.2)), omega (arith, l.least, l.most, z.2))

  -- ---- with a day's value

  module _ (d : ℕ) (h : d < n) (v : ℕ) (low : at r.floors d ≤ v) (high : v ≤ at r.ceilings d) where
    abbrev fs : List ℕ
    fs = set r.floors d v

    abbrev cs : List ℕ
    cs = set r.ceilings d v

    abbrev stop : ℕ
    stop = first_crossed (carried fs rs) (at cs) n

    abbrev y : ℕ → ℕ
    y = raised_to (forwarded fs rs n) cs rs n first r.lowest

    in_floors : d < length r.floors
    in_floors = omega (arith, s.bounds.floors, s.bounds.most)

    in_ceilings : d < length r.ceilings
    in_ceilings = omega (arith, s.bounds.ceilings, s.bounds.most)

    fits : Fits rs n first (record { floors = fs; ceilings = cs; lowest = r.lowest; highest = r.highest })
    fits = refit-day s.bounds d v h (omega (arith, s.bounds.ceiling d h))

    -- some levels within the ranges have the value
    z : (x : ℕ → ℕ) × Within rs n first r x × (x d ≡ v)
    z = (s.day d h).taken v low high

    pinned : Levels (box fs cs rs n first r.lowest r.highest) z.0
    pinned =
        let l = z.1 in
        rebound l (λ k u. by_cell (λ j a. a ≤ z.0 j) 0 r.floors d v in_floors (omega (arith, z.2)) k (l.floor k u))
        (λ k u. by_cell (λ j a. z.0 j ≤ a) 0 r.ceilings d v in_ceilings (omega (arith, z.2)) k (l.ceiling k u)) l.least l.most

    -- so carrying stops nowhere
    uncrossed : n ≤ stop
    uncrossed = go (dec_lt stop n)
      where
        go : Dec (stop < n) → n ≤ stop
        go (yes l) = absurd (omega (arith, (crossing (carried fs rs) (at cs) n).here l, carried-least z.0 pinned stop l, pinned.ceiling stop l))
        go (no l) = omega arith

    stop_is : stop ≡ n
    stop_is = omega (arith, uncrossed, (crossing (carried fs rs) (at cs) n).most)

    at_carried : (k : ℕ) → k < n → at (forwarded fs rs n) k ≡ carried fs rs k
    at_carried = forwarded_at fits uncrossed

    over : Levels (box (forwarded fs rs n) cs rs n first r.lowest r.highest) z.0
    over = rebound pinned (λ k l. omega (arith, at_carried k l, carried-least z.0 pinned k l)) pinned.ceiling pinned.least pinned.most

    raised : Levels (box (forwarded fs rs n) cs rs n first (max r.lowest (held n first (at (forwarded fs rs n)))) (max r.lowest (held n first (at (forwarded fs rs n))))) y
    raised = raised_levels (ready fits uncrossed) s.bounds.counts r.lowest r.highest z.0 over

    floor : (k : ℕ) → k < n → at fs k ≤ y k
    floor k l = omega (arith, at_carried k l, carried-above fs rs k, raised.floor k l)

    kept : Within rs n first r y
    kept =
        rebound raised
        (λ k l. by_cell (λ j a. a ≤ y j → at r.floors j ≤ y j) 0 r.floors d v in_floors (λ m. omega arith) k (λ m. m) (floor k l))
        (λ k l. by_cell (λ j a. y j ≤ a → y j ≤ at r.ceilings j) 0 r.ceilings d v in_ceilings (λ m. omega arith) k (λ m. m) (raised.ceiling k l))
        (omega (arith, raised.least))
        (omega (arith, raised.most, s.total.some, over.most, sum_le (counted first n) n (at (forwarded fs rs n)) z.0 over.floor))

    valued : y d ≡ v
    valued = omega (arith, get_or-set_same r.floors d v 0 in_floors, get_or-set_same r.ceilings d v 0 in_ceilings, floor d h, raised.ceiling d h)

    pub with_day : Within rs n first r (raised_to (forwarded fs rs stop) cs rs n first r.lowest) × (raised_to (forwarded fs rs stop) cs rs n first r.lowest d ≡ v)
    with_day = rw stop_is (kept, valued)
