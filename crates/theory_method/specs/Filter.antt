-- Filtering over levels and rise codes, as document 01 has it: carrying, the total's range, ceilings, and floors as their mirror.
use Rattle.std.specs.Prelude.{ℕ, zero, suc, ◌+◌, ◌-◌, ◌*◌, ◌≤◌, ◌<◌, min, max, ◌≡◌, Bool, true, false, cond, List, ltb, length, replicate}
use Rattle.limits.specs.Limits.{most_days, level_offset, highest_level, rise_offset, highest_rise_code, highest_total_code}
use Rattle.theory_lists.specs.Sum.{at}
use Rattle.theory_lists.specs.Written.{written}
use Rattle.theory_lists.specs.First.{first_where}
use Rattle.theory_chains.specs.Sum.{sum}
use Rattle.theory_chains.specs.Fit.{fit}
use Rattle.theory_method.specs.Shift.{shift}
use Rattle.theory_method.specs.Counted.{counted, run_sum}

-- what tightening takes: the days' floors, ceilings and rises as codes, how many days there are, the first counted day, and the total's bounds, as held
pub record Box : Type 0 where
  pub floors : List ℕ
  pub ceilings : List ℕ
  pub rises : List ℕ
  pub days : ℕ
  pub first : ℕ
  pub lowest : ℕ
  pub highest : ℕ

abbrev pub box : List ℕ → List ℕ → List ℕ → ℕ → ℕ → ℕ → ℕ → Box
box fs cs rs n first L U = record { floors = fs; ceilings = cs; rises = rs; days = n; first = first; lowest = L; highest = U }

-- the same with every day counted
abbrev pub all_counted : Box → Box
all_counted b = box b.floors b.ceilings b.rises b.days 0 b.lowest b.highest

-- up to 512 days, the first counted day among them, and codes no higher than their highest
pub record InBounds (b : Box) : Type 0 where
  pub counts : b.first < b.days
  pub most : b.days ≤ most_days
  pub floors : length b.floors ≡ most_days
  pub ceilings : length b.ceilings ≡ most_days
  pub rises : length b.rises ≡ most_days
  pub floor : (k : ℕ) → k < b.days → at b.floors k ≤ highest_level
  pub ceiling : (k : ℕ) → k < b.days → at b.ceilings k ≤ highest_level
  pub rise : (k : ℕ) → k < b.days → at b.rises k ≤ highest_rise_code
  pub lowest : b.lowest ≤ highest_total_code
  pub highest : b.highest ≤ highest_total_code

-- ---- carrying

-- the floor of day k, carried forward: at least the one before plus the rise between them
unfoldable pub carried : List ℕ → List ℕ → ℕ → ℕ
carried fs rs zero = at fs 0
carried fs rs (suc k) = max (at fs (suc k)) (carried fs rs k + at rs k - rise_offset)

-- the first of n days at which a is above b, or n
abbrev pub first_crossed : (ℕ → ℕ) → (ℕ → ℕ) → ℕ → ℕ
first_crossed a b = first_where (λ k. ltb (b k) (a k))

-- ---- ceilings

-- the level of day k in a list, shifted
abbrev pub shifted : List ℕ → List ℕ → ℕ → ℕ → ℕ
shifted l rs n k = at l k + shift (at rs) n k

-- the overload of day i at a shifted level v: by how much v is above the floors of the counted days w from day i on
abbrev pub overload : List ℕ → List ℕ → ℕ → (ℕ → Bool) → ℕ → ℕ → ℕ
overload fs rs n w i v = run_sum w (λ k. v - shifted fs rs n k) i (n - i)

-- the ceiling of the m-th day from the end, shifted: the greatest level up to its own and the next day's lowered ceiling whose overload
-- is within the margin
unfoldable pub lowered_from : List ℕ → List ℕ → List ℕ → ℕ → (ℕ → Bool) → ℕ → ℕ → ℕ
lowered_from fs cs rs n w margin zero = shifted cs rs n (n - 1)
lowered_from fs cs rs n w margin (suc m) =
    fit (overload fs rs n w (n - suc m)) margin (shifted fs rs n (n - suc m)) (min (lowered_from fs cs rs n w margin m) (shifted cs rs n (n - suc m)))

-- the lowered ceiling of day k, as shown
abbrev pub lowered : List ℕ → List ℕ → List ℕ → ℕ → (ℕ → Bool) → ℕ → ℕ → ℕ
lowered fs cs rs n w margin k = lowered_from fs cs rs n w margin (n - k) - shift (at rs) n k

-- ---- floors, as the mirror: days from the other end, levels from the other end of the scale

abbrev pub mirrored : List ℕ → ℕ → ℕ → ℕ
mirrored l n k = highest_level - at l (n - (k + 1))

-- the rise from day k to the next, of the days from the other end
abbrev pub reversed : List ℕ → ℕ → ℕ → ℕ
reversed rs n k = at rs (n - (k + 2))

abbrev pub zeros : List ℕ
zeros = replicate most_days 0

-- the counted days come first there
unfoldable pub raised : List ℕ → List ℕ → List ℕ → ℕ → ℕ → ℕ → List ℕ
raised fs cs rs n first margin =
    let low : List ℕ = written (mirrored cs n) n zeros in
    let high : List ℕ = written (mirrored fs n) n zeros in
    let back : List ℕ = written (reversed rs n) (n - 1) zeros in
    written (mirrored (written (lowered low high back n (counted 0 (n - first)) margin) n high) n) n fs

-- ---- all of it

-- 1,000 for each day that the counted ones are less than 512
unfoldable pub spare : ℕ → ℕ → ℕ
spare n first = level_offset * (most_days - (n - first))

-- a held total is the sum of the counted levels, and that
abbrev pub held : ℕ → ℕ → (ℕ → ℕ) → ℕ
held n first x = sum (counted first n) n x + spare n first

-- what tightening gives: whether there is a schedule, the ranges of the days, and the total's
pub record Tight : Type 0 where
  pub found : Bool
  pub floors : List ℕ
  pub ceilings : List ℕ
  pub lowest : ℕ
  pub highest : ℕ

abbrev pub none : Box → Tight
none b = record { found = false; floors = b.floors; ceilings = b.ceilings; lowest = 0; highest = 0 }

abbrev pub with_floors : Box → List ℕ → Box
with_floors b fs = box fs b.ceilings b.rises b.days b.first b.lowest b.highest

abbrev pub with_ceilings : Box → List ℕ → Box
with_ceilings b cs = box b.floors cs b.rises b.days b.first b.lowest b.highest

-- the floors carried up to day r, where carrying stops
abbrev pub forwarded : List ℕ → List ℕ → ℕ → List ℕ
forwarded fs rs r = written (carried fs rs) r fs

abbrev pub lowered_all : List ℕ → List ℕ → List ℕ → ℕ → (ℕ → Bool) → ℕ → List ℕ
lowered_all fs cs rs n w margin = written (lowered fs cs rs n w margin) n cs

-- with the ceilings lowered: the total's range, and the floors
unfoldable pub tight_floors : Box → Tight
tight_floors b =
    let bottom : ℕ = held b.days b.first (at b.floors) in
    let top : ℕ = held b.days b.first (at b.ceilings) in
    let lowest : ℕ = max b.lowest bottom in
    let highest : ℕ = min b.highest top in
    cond (ltb highest lowest) (none b)
    (record { found = true; floors = raised b.floors b.ceilings b.rises b.days b.first (top - lowest); ceilings = b.ceilings; lowest = lowest; highest = highest })

-- with the floors carried: the ceilings, and onward
unfoldable pub tight_ceilings : Box → Tight
tight_ceilings b =
    let bottom : ℕ = held b.days b.first (at b.floors) in
    cond (ltb b.highest bottom) (none b)
    (tight_floors (with_ceilings b (lowered_all b.floors b.ceilings b.rises b.days (counted b.first b.days) (b.highest - bottom))))

unfoldable pub tightened : Box → Tight
tightened b =
    let r : ℕ = first_crossed (carried b.floors b.rises) (at b.ceilings) b.days in
    let carriedTo : ℕ → Box = λ m. with_floors b (forwarded b.floors b.rises m) in
    cond (ltb r b.days) (none (carriedTo r)) (tight_ceilings (carriedTo b.days))
