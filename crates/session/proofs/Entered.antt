-- What holds of a profile that no check before 8 refuses.
use mathlib.Core.Path.{◌≡◌, refl, ◌∙◌}
use mathlib.Core.Bool.{Bool, true, false, ◌&&◌, ◌||◌, and-eq-true_iff}
use mathlib.Core.List.{List}
use Prim.Native.Nat.{ℕ, ◌+◌, ◌-◌, ◌≤◌, ◌<◌}
use native.Mathlib.Omega.{arith}
use native.Mathlib.Decide.{dec_lt}
use lib.IntN.{ℤ}
use lib.Dec.{eqb}
use lib.ListN.{length, length-replicate, get_or-replicate}
use borrow.Author.Tests.{not-false, ltb-true, ltb-false, eqb-true, eqb-false}
use Rattle.limits.specs.Limits.{lowest_point, highest_point, lowest_rise, highest_rise, lowest_total, highest_total}
use Rattle.theory_lists.specs.Checks.{cond-zero, or-false}
use Rattle.theory_lists.specs.Sum.{at}
use Rattle.theory_lists.specs.Written.{written_below, written-past, length-written}
use Rattle.base_codes.specs.Code.{within, code, on, every}
use Rattle.base_codes.proofs.Every.{every_on}
use Rattle.base_codes.proofs.Offset.{Less}
use Rattle.base_codes.proofs.Laws.{point_less, rise_less, total_less, within_less, point_most, rise-most, total-most}
use Rattle.theory_method.specs.Filter.{InBounds, zeros}
use Rattle.session.specs.Profile.{Profile}
use Rattle.session.specs.Opening.{box_in, early_opening, bad_count, bad_length, bad_point, bad_rise, bad_total, bad_range, bad_first, codes}

pub or-true : (a b : Bool) → b ≡ true → (a || b) ≡ true
or-true true b e = refl
or-true false b e = e

-- what 1 and 2 let pass
pub record Sized (p : Profile) : Type 0 where
  pub some : 0 < p.days
  pub few : p.days ≤ 512
  pub floors : length p.floors ≡ p.days
  pub ceilings : length p.ceilings ≡ p.days
  pub rises : length p.rises ≡ p.days - 1

pub sized : (p : Profile) → bad_count p ≡ false → bad_length p ≡ false → Sized p
sized p c1 c2 =
    let count = or-false _ _ c1 in
    let floors : Bool = eqb (length p.floors) p.days in
    let ceilings : Bool = eqb (length p.ceilings) p.days in
    let rises : Bool = eqb (length p.rises) (p.days - 1) in
    let lengths = (and-eq-true_iff (floors && ceilings) rises).0 (not-false _ c2) in
    let two = (and-eq-true_iff floors ceilings).0 lengths.0 in
    let apart : (p.days ≡ 0 → ⊥) = eqb-false _ _ count.0 in
    record {
      some = omega (arith, apart);
      few = ltb-false _ _ count.1;
      floors = eqb-true _ _ two.0;
      ceilings = eqb-true _ _ two.1;
      rises = eqb-true _ _ lengths.1;
    }

-- what 1 to 5 and 13 let pass
pub record Entered (p : Profile) : Type 0 where
  pub sized : Sized p
  pub counts : p.first < p.days
  pub floor : (k : ℕ) → k < p.days → within lowest_point highest_point (on p.floors k) ≡ true
  pub ceiling : (k : ℕ) → k < p.days → within lowest_point highest_point (on p.ceilings k) ≡ true
  pub rise : (k : ℕ) → k < p.days - 1 → within lowest_rise highest_rise (on p.rises k) ≡ true
  pub lowest : within lowest_total highest_total p.lowest ≡ true
  pub highest : within lowest_total highest_total p.highest ≡ true

-- none of 1 to 5 refuses
pub record Unrefused (p : Profile) : Type 0 where
  pub count : bad_count p ≡ false
  pub lengths : bad_length p ≡ false
  pub points : bad_point p ≡ false
  pub rises : bad_rise p ≡ false
  pub totals : bad_total p ≡ false

pub passed : (p : Profile) → Unrefused p → p.first < p.days → Entered p
passed p u counts =
    let point : ℤ → Bool = within lowest_point highest_point in
    let z = sized p u.count u.lengths in
    let points = (and-eq-true_iff (every point p.floors) (every point p.ceilings)).0 (not-false _ u.points) in
    let totals = (and-eq-true_iff (within lowest_total highest_total p.lowest) (within lowest_total highest_total p.highest)).0 (not-false _ u.totals) in
    record {
      sized = z;
      counts = counts;
      floor = λ k h. every_on point p.floors points.0 k (omega (arith, z.floors));
      ceiling = λ k h. every_on point p.ceilings points.1 k (omega (arith, z.ceilings));
      rise = λ k h. every_on (within lowest_rise highest_rise) p.rises (not-false _ u.rises) k (omega (arith, z.rises));
      lowest = totals.0;
      highest = totals.1;
    }

-- the profile with every day counted: what 1 to 5 let pass of it does not wait for 13
abbrev pub counting_all : Profile → Profile
counting_all p = record { days = p.days; first = 0; floors = p.floors; ceilings = p.ceilings; rises = p.rises; lowest = p.lowest; highest = p.highest }

pub passed_all : (p : Profile) → Unrefused p → Entered (counting_all p)
passed_all p u =
    passed (counting_all p) (record { count = u.count; lengths = u.lengths; points = u.points; rises = u.rises; totals = u.totals })
    (sized p u.count u.lengths).some

pub entered : (p : Profile) → early_opening p ≡ 0 → Entered p
unfolding early_opening
entered p e =
    let c1 = cond-zero (bad_count p) 0 _ e in
    let c2 = cond-zero (bad_length p) 1 _ c1.1 in
    let c3 = cond-zero (bad_point p) 2 _ c2.1 in
    let c4 = cond-zero (bad_rise p) 3 _ c3.1 in
    let c5 = cond-zero (bad_total p) 4 _ c4.1 in
    let c6 = cond-zero (bad_range p) 5 _ c5.1 in
    let c13 = cond-zero (bad_first p) 12 _ c6.1 in
    passed p (record { count = c1.0; lengths = c2.0; points = c3.0; rises = c4.0; totals = c5.0 }) (ltb-true _ _ (not-false _ c13.0))

-- ---- the codes

length-zeros : length zeros ≡ 512
length-zeros = length-replicate {A = ℕ} 512 0

pub codes_at : (low : ℤ) (zs : List ℤ) (n k : ℕ) → k < n → n ≤ 512 → at (codes low zs n) k ≡ code low (on zs k)
codes_at low zs n k h few = written_below (λ j. code low (on zs j)) 0 n zeros k h (omega (arith, length-zeros))

length-codes : (low : ℤ) (zs : List ℤ) (n : ℕ) → length (codes low zs n) ≡ 512
length-codes low zs n = length-written (λ k. code low (on zs k)) n zeros ∙ length-zeros

module _ (p : Profile) (d : Entered p) where
  pub floor-code : (k : ℕ) → k < p.days → at (codes lowest_point p.floors p.days) k ≡ code lowest_point (on p.floors k)
  floor-code k h = codes_at lowest_point p.floors p.days k h d.sized.few

  pub ceiling-code : (k : ℕ) → k < p.days → at (codes lowest_point p.ceilings p.days) k ≡ code lowest_point (on p.ceilings k)
  ceiling-code k h = codes_at lowest_point p.ceilings p.days k h d.sized.few

  pub rise-code : (k : ℕ) → k + 1 < p.days → at (codes lowest_rise p.rises (p.days - 1)) k ≡ code lowest_rise (on p.rises k)
  rise-code k h = codes_at lowest_rise p.rises (p.days - 1) k (omega arith) (omega (arith, d.sized.few))

  rise-small : (k : ℕ) → k < p.days → Dec (k < p.days - 1) → at (codes lowest_rise p.rises (p.days - 1)) k ≤ 4000
  rise-small k h (yes l) = omega (arith, rise-code k (omega arith), rise-most (on p.rises k) (d.rise k l))
  rise-small k h (no l) =
      omega (arith, written-past (λ j. code lowest_rise (on p.rises j)) 0 (p.days - 1) zeros k (omega arith), get_or-replicate {A = ℕ} 512 k 0 0 (omega (arith, d.sized.few)))

  pub codes-bounds : InBounds (box_in p)
  codes-bounds = record {
    counts = d.counts;
    most = d.sized.few;
    floors = length-codes lowest_point p.floors p.days;
    ceilings = length-codes lowest_point p.ceilings p.days;
    rises = length-codes lowest_rise p.rises (p.days - 1);
    floor = λ k h. omega (arith, floor-code k h, point_most (on p.floors k) (d.floor k h));
    ceiling = λ k h. omega (arith, ceiling-code k h, point_most (on p.ceilings k) (d.ceiling k h));
    rise = λ k h. rise-small k h (dec_lt k (p.days - 1));
    lowest = total-most p.lowest d.lowest;
    highest = total-most p.highest d.highest;
  }

  -- each number of the profile, by its code
  pub floor_less : (k : ℕ) → k < p.days → Less (on p.floors k) (at (codes lowest_point p.floors p.days) k) 1000
  floor_less k h = rw (floor-code k h) (within_less lowest_point highest_point (on p.floors k) 1000 point_less (d.floor k h))

  pub ceiling_less : (k : ℕ) → k < p.days → Less (on p.ceilings k) (at (codes lowest_point p.ceilings p.days) k) 1000
  ceiling_less k h = rw (ceiling-code k h) (within_less lowest_point highest_point (on p.ceilings k) 1000 point_less (d.ceiling k h))

  pub rise_less_at : (k : ℕ) → k + 1 < p.days → Less (on p.rises k) (at (codes lowest_rise p.rises (p.days - 1)) k) 2000
  rise_less_at k h = rw (rise-code k h) (within_less lowest_rise highest_rise (on p.rises k) 2000 rise_less (d.rise k (omega arith)))

  pub lowest_less : Less p.lowest (code lowest_total p.lowest) 512000
  lowest_less = within_less lowest_total highest_total p.lowest 512000 total_less d.lowest

  pub highest_less : Less p.highest (code lowest_total p.highest) 512000
  highest_less = within_less lowest_total highest_total p.highest 512000 total_less d.highest
