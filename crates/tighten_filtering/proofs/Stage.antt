-- What the stages of tightening leave for one another: a record for each stage, and the laws that the next needs and that each return is by.
use Prim.Native.Nat.{ℕ, ◌-◌, ◌≤◌, ◌<◌, min, max}
use mathlib.Core.Path.{◌≡◌, sym, ◌∙◌}
use mathlib.Core.Bool.{Bool, true, false}
use mathlib.Core.List.{List}
use native.Mathlib.Omega.{arith}
use lib.Dec.{ltb}
use borrow.Author.Tests.{lt-ltb, le-ltb}
use Rattle.theory_lists.specs.Sum.{at}
use Rattle.theory_lists.specs.Written.{written}
use Rattle.theory_method.specs.Counted.{counted}
use Rattle.theory_method.specs.Filter.{Box, with_floors, with_ceilings, InBounds, carried, first_crossed, forwarded, lowered, raised, held, none, tight_floors, tight_ceilings, tightened}
use Rattle.theory_method.specs.Stages.{Ready}
use Rattle.theory_method.proofs.Stages.{ready, crossing, lowered-ready, lowered-rising}
use Rattle.tighten_passes.specs.View.{FloorsReady}

-- ---- tighten

-- the floors are carried, and no day is crossed
pub record Carried (b : Box) (fs : List ℕ) : Type 0 where
  pub bounds : InBounds b
  pub clear : b.days ≤ first_crossed (carried b.floors b.rises) (at b.ceilings) b.days
  pub floors : fs ≡ forwarded b.floors b.rises b.days

-- their total is at most the highest, and the ceilings are lowered by what is left
pub record Lowered (b : Box) (fs : List ℕ) (s : ℕ) (cs : List ℕ) : Type 0 where
  pub before : Carried b fs
  pub bottom : s ≡ held b.days b.first (at fs)
  pub under : s ≤ b.highest
  pub ceilings : cs ≡ written (lowered fs b.ceilings b.rises b.days (counted b.first b.days) (b.highest - s)) b.days b.ceilings

-- the total's range is narrowed
pub record Narrowed (b : Box) (fs : List ℕ) (s : ℕ) (cs : List ℕ) (t l u : ℕ) : Type 0 where
  pub before : Lowered b fs s cs
  pub top : t ≡ held b.days b.first (at cs)
  pub low : l ≡ max b.lowest s
  pub high : u ≡ min b.highest t

-- a box with these floors, or these floors and ceilings
abbrev within : Box → List ℕ → List ℕ → Box
within b fs cs = with_ceilings (with_floors b fs) cs

-- carrying stopped, or not
module _ {b : Box} (h : InBounds b) {r : ℕ} (er : r ≡ first_crossed (carried b.floors b.rises) (at b.ceilings) b.days)
    {fs : List ℕ} (ef : fs ≡ written (carried b.floors b.rises) r b.floors) where
  pub tight_crossed : r < b.days → none (with_floors b fs) ≡ tightened b
  unfolding tightened
  tight_crossed l =
      let t : ltb (first_crossed (carried b.floors b.rises) (at b.ceilings) b.days) b.days ≡ true = lt-ltb _ _ (rw er at l) in
      rw (t, ef, er)

  module _ (clear : b.days ≤ r) where
    every : r ≡ b.days
    every = omega (arith, (crossing (carried b.floors b.rises) (at b.ceilings) b.days).most)

    pub carries : Carried b fs
    carries = record { bounds = h; clear = rw er at clear; floors = rw every at ef }

module _ {b : Box} {fs : List ℕ} (d : Carried b fs) where
  pub carried-ready : Ready fs b.ceilings b.rises b.days
  carried-ready = rw d.floors (ready d.bounds d.clear)

  after_carrying : tight_ceilings (with_floors b fs) ≡ tightened b
  unfolding tightened
  after_carrying =
      let t : ltb (first_crossed (carried b.floors b.rises) (at b.ceilings) b.days) b.days ≡ false = le-ltb _ _ d.clear in
      rw (t, d.floors)

  pub tight_over : {bottom : ℕ} → bottom ≡ held b.days b.first (at fs) → b.highest < bottom → none (with_floors b fs) ≡ tightened b
  unfolding tight_ceilings
  tight_over eb l =
      let t : ltb b.highest (held b.days b.first (at fs)) ≡ true = lt-ltb _ _ (rw eb at l) in
      let z : tight_ceilings (with_floors b fs) ≡ none (with_floors b fs) = rw t in
      sym z ∙ after_carrying

module _ {b : Box} {fs : List ℕ} {bottom : ℕ} {cs : List ℕ} (d : Lowered b fs bottom cs) where
  pub lowered_raisable : FloorsReady fs cs b.rises b.days
  lowered_raisable =
      let r = carried-ready d.before in
      rw d.ceilings (record { ready = lowered-ready r (counted b.first b.days) (b.highest - bottom); rising = lowered-rising r (counted b.first b.days) (b.highest - bottom) })

  after_lowering : tight_floors (within b fs cs) ≡ tightened b
  unfolding tight_ceilings
  after_lowering =
      let t : ltb b.highest (held b.days b.first (at fs)) ≡ false = le-ltb _ _ (rw d.bottom at d.under) in
      let z : tight_ceilings (with_floors b fs) ≡ tight_floors (within b fs cs) = rw (t, d.ceilings, d.bottom) in
      sym z ∙ after_carrying d.before

module _ {b : Box} {fs : List ℕ} {bottom : ℕ} {cs : List ℕ} {top low high : ℕ} (d : Narrowed b fs bottom cs top low high) where
  abbrev apart : Bool
  apart = ltb (min b.highest (held b.days b.first (at cs))) (max b.lowest (held b.days b.first (at fs)))

  pub tight_apart : high < low → none (within b fs cs) ≡ tightened b
  unfolding tight_floors
  tight_apart l =
      let t : apart ≡ true = lt-ltb _ _ (rw (d.high, d.low, d.top, d.before.bottom) at l) in
      let z : tight_floors (within b fs cs) ≡ none (within b fs cs) = rw t in
      sym z ∙ after_lowering d.before

  pub tight_found : low ≤ high
      → record { found = true; floors = raised fs cs b.rises b.days b.first (top - low); ceilings = cs; lowest = low; highest = high } ≡ tightened b
  unfolding tight_floors
  tight_found l =
      let t : apart ≡ false = le-ltb _ _ (rw (d.high, d.low, d.top, d.before.bottom) at l) in
      let z : tight_floors (within b fs cs) ≡ record { found = true; floors = raised fs cs b.rises b.days b.first (top - low); ceilings = cs; lowest = low; highest = high }
      = rw (t, d.high, d.low, d.top, d.before.bottom) in
      sym z ∙ after_lowering d.before
