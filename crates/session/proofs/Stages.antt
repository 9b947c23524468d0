-- The stages of opening by what their tests found: 3 to 5 with the numbers as codes, then 6 and 13, then 8 or the ranges that tightening gives.
use mathlib.Core.Path.{◌≡◌, refl, ap, sym, ◌∙◌}
use mathlib.Core.Bool.{Bool, true, false, cond, not, ◌||◌}
use mathlib.Core.List.{List}
use Prim.Native.Nat.{ℕ, ◌≤◌, ◌<◌}
use lib.IntN.{ℤ}
use lib.Dec.{ltb}
use borrow.Author.Tests.{eq-eqb, ne_eqb, lt-ltb, le-ltb, ltb-true, not-false}
use Rattle.limits.specs.Limits.{lowest_total, highest_total}
use Rattle.theory_lists.specs.Sum.{at}
use Rattle.theory_lists.specs.Checks.{cond-zero}
use Rattle.base_codes.specs.Code.{within, code, coded}
use Rattle.base_codes.specs.declared.CodedNumbers.{CodedNumbers}
use Rattle.std.specs.Prelude.{Option, None, Some, Result, Ok, Err, ok_or}
use Rattle.refusals.specs.declared.Refusal.{Refusal}
use Rattle.refusals.specs.declared.Refusal.TheVariants.{NoSchedule}
use Rattle.refusals.specs.Number.{refusal_number}
use Rattle.refusals.proofs.Laws.{refused}
use Rattle.base_codes.specs.declared.TotalRange.{TotalRange}
use Rattle.base_codes.proofs.Laws.{coded-code, coded-outside}
use Rattle.theory_method.specs.Filter.{Box, all_counted, InBounds, Tight, tightened, first_crossed}
use Rattle.theory_method.proofs.Levels.{recount}
use Rattle.tighten_filtering.specs.Boxed.{boxed, tight_as}
use Rattle.session.specs.Stages.{not_coded, coded_with, codes_crossed, range_refusal, RangesOpened, ranges_as, no_ranges, ranges_with, ranges_opened, opened_codes}
use Rattle.session.specs.Opening.{fresh, refused_with}
use Rattle.session.specs.declared.Numbers.{Numbers}

-- ---- 3 to 5

module _ (m : Numbers) {point : Bool} (rise : Bool) where
  pub point_refused : point ≡ true → not_coded 3 ≡ coded_with m point rise
  unfolding coded_with
  point_refused h = rw h

  pub rise-refused : point ≡ false → rise ≡ true → not_coded 4 ≡ coded_with m point rise
  unfolding coded_with
  rise-refused p h = rw (p, h)

-- a bound of the total, by its call
module _ (z : ℤ) {r : Option ℕ} (answer : r ≡ coded lowest_total highest_total z) where
  total-outside : r ≡ None → within lowest_total highest_total z ≡ false
  total-outside o = coded-outside lowest_total highest_total z answer o

  total-coded : {t : ℕ} → r ≡ Some t → (within lowest_total highest_total z ≡ true) × (t ≡ code lowest_total z)
  total-coded {t} o = coded-code lowest_total highest_total z t answer o

-- a point and a rise are within their bounds
pub record Inside (point rise : Bool) : Type 0 where
  pub points : point ≡ false
  pub rises : rise ≡ false

module _ (m : Numbers) {point rise : Bool} (d : Inside point rise) {low : Option ℕ} (l : low ≡ coded lowest_total highest_total m.lowest) where
  pub lowest-refused : low ≡ None → not_coded 5 ≡ coded_with m point rise
  unfolding coded_with
  lowest-refused o = rw (d.points, d.rises, total-outside _ l o)

  module _ {t : ℕ} (o : low ≡ Some t) {high : Option ℕ} (h : high ≡ coded lowest_total highest_total m.highest) where
    pub highest-refused : high ≡ None → not_coded 5 ≡ coded_with m point rise
    unfolding coded_with
    highest-refused u = rw (d.points, d.rises, (total-coded _ l o).0, total-outside _ h u)

    pub numbers-coded : {v : ℕ} → high ≡ Some v → record { refusal = 0; numbers = record { days = m.days; first = m.first; lowest = t; highest = v } } ≡ coded_with m point rise
    unfolding coded_with
    numbers-coded u =
        let a = total-coded m.lowest l o in
        let b = total-coded m.highest h u in
        rw (d.points, d.rises, a.0, b.0, a.1, b.1)

-- ---- 6, 13 and 8

module _ (crossed : Bool) (m : CodedNumbers) where
  pub said_6 : (crossed || ltb m.highest m.lowest) ≡ true → 6 ≡ range_refusal crossed m
  said_6 h = rw h

  module _ (h : (crossed || ltb m.highest m.lowest) ≡ false) where
    pub said_none : m.first < m.days → 0 ≡ range_refusal crossed m
    said_none l = rw (h, lt-ltb m.first m.days l)

    pub said_13 : m.days ≤ m.first → 13 ≡ range_refusal crossed m
    said_13 l = rw (h, le-ltb m.first m.days l)

-- 8, or the total's range
by_total : (t : Option TotalRange) (fs cs : List ℕ) → ranges_as (ok_or t NoSchedule) fs cs ≡ ranges_with (tight_as t fs cs)
by_total (Some t) fs cs = refl
by_total None fs cs = refl

-- 6 or 13
by_number : (a b : Bool) {x : ℕ} (fs cs : List ℕ) (t : RangesOpened) → x ≡ cond a 6 (cond b 13 0) → (x ≡ 0 → ⊥) → no_ranges x fs cs ≡ cond a (no_ranges 6 fs cs) (cond b (no_ranges 13 fs cs) t)
by_number true b fs cs t e h = rw e refl
by_number false true fs cs t e h = rw e refl
by_number false false fs cs t e h = absurd (h e)

module _ (fs cs rs : List ℕ) (m : CodedNumbers) {days : Bool} {x : ℕ} (told : days ≡ ltb (first_crossed (at fs) (at cs) m.days) m.days) (asked : x ≡ range_refusal days m) where
  pub judged : x ≡ cond (codes_crossed fs cs m.days m.lowest m.highest) 6 (cond (not (ltb m.first m.days)) 13 0)
  judged = asked ∙ ap (λ d. range_refusal d m) told

  pub ranges-refused : (x ≡ 0 → ⊥) → no_ranges x fs cs ≡ ranges_opened (boxed fs cs rs m)
  unfolding ranges_opened
  ranges-refused h =
      by_number (codes_crossed fs cs m.days m.lowest m.highest) (not (ltb m.first m.days)) fs cs (ranges_with (tightened (boxed fs cs rs m))) judged h

  module _ (h : x ≡ 0) where
    passes : (codes_crossed fs cs m.days m.lowest m.highest ≡ false) × (not (ltb m.first m.days) ≡ false)
    passes =
        let c6 = cond-zero (codes_crossed fs cs m.days m.lowest m.highest) 5 _ (sym judged ∙ h) in
        (c6.0, (cond-zero (not (ltb m.first m.days)) 12 _ c6.1).0)

    pub first_in_bounds : InBounds (all_counted (boxed fs cs rs m)) → InBounds (boxed fs cs rs m)
    first_in_bounds b = recount b (ltb-true _ _ (not-false _ passes.1))

  pub ranges-tight : x ≡ 0 → (t : Option TotalRange) (floors ceilings : List ℕ) → tight_as t floors ceilings ≡ tightened (boxed fs cs rs m)
      → ranges_as (ok_or t NoSchedule) floors ceilings ≡ ranges_opened (boxed fs cs rs m)
  unfolding ranges_opened
  ranges-tight h t floors ceilings e = rw ((passes h).0, (passes h).1, ← e) (by_total t floors ceilings)

-- ---- the session

module _ (b : Box) (fs cs : List ℕ) {r : Result TotalRange Refusal} (e : ranges_as r fs cs ≡ ranges_opened b) where
  pub session-refused : {x : Refusal} → r ≡ Err x → refused_with (refusal_number x) ≡ opened_codes b
  unfolding opened_codes
  session-refused {x} h = let o = rw h at e in rw (← o, ne_eqb (refusal_number x) 0 (refused x))

  pub session-fresh : {t : TotalRange} → r ≡ Ok t
      → record { refusal = 0; session = fresh b.days b.first b.rises (record { floors = fs; ceilings = cs; lowest = t.lowest; highest = t.highest }) } ≡ opened_codes b
  unfolding opened_codes
  session-fresh h = let o = rw h at e in rw (← o)
