-- Opening by stages, as the code takes them. A reader may pass this page over: `open`'s own contract does not cite it.
use Rattle.std.specs.Prelude.{Bool, cond, not, ◌&&◌, ◌||◌, List, Result, Ok, Err, ℕ, ◌-◌, ℤ, eqb, ltb, length}
use Rattle.limits.specs.Limits.{most_days, lowest_total, highest_total}
use Rattle.theory_lists.specs.Sum.{at}
use Rattle.theory_lists.specs.Lent.{lent_list}
use Rattle.base_codes.specs.Code.{within, code, on, code_or_zero}
use Rattle.base_codes.specs.declared.CodedNumbers.{CodedNumbers}
use Rattle.base_codes.specs.declared.TotalRange.{TotalRange}
use Rattle.refusals.specs.declared.Refusal.{Refusal}
use Rattle.refusals.specs.Number.{refusal_number}
use Rattle.theory_method.specs.Filter.{Box, Tight, tightened, first_crossed}
use Rattle.session.specs.Profile.{Profile}
use Rattle.session.specs.Opening.{Opened, bad_count, bad_length, bad_point, bad_rise, numbers_of, fresh, refused_with}
use Rattle.session.specs.declared.Numbers.{Numbers}

-- ---- 1 and 2

abbrev pub length_refusal : ℕ → ℕ → ℕ → ℕ → ℕ
length_refusal days floors ceilings rises =
    cond (eqb days 0 || ltb most_days days) 1
    (cond (not (eqb floors days && eqb ceilings days && eqb rises (days - 1))) 2 0)

abbrev pub lengths_of : Profile → ℕ
lengths_of p = length_refusal p.days (length p.floors) (length p.ceilings) (length p.rises)

-- ---- 3 to 5, and a profile's numbers as codes

abbrev pub coded_numbers : Numbers → CodedNumbers
coded_numbers m = record { days = m.days; first = m.first; lowest = code lowest_total m.lowest; highest = code lowest_total m.highest }

-- what coding gives: its refusal, 0 for none, and the numbers
pub record CodedProfile : Type 0 where
  pub refusal : ℕ
  pub numbers : CodedNumbers

-- beside a refusal all are 0
abbrev pub not_coded : ℕ → CodedProfile
not_coded number = record { refusal = number; numbers = record { days = 0; first = 0; lowest = 0; highest = 0 } }

abbrev pub coded_as : Result CodedNumbers Refusal → CodedProfile
coded_as (Ok m) = record { refusal = 0; numbers = m }
coded_as (Err refusal) = not_coded (refusal_number refusal)

-- by whether a point and a rise are outside their bounds
unfoldable pub coded_with : Numbers → Bool → Bool → CodedProfile
coded_with m point rise =
    cond point (not_coded 3)
    (cond rise (not_coded 4)
    (cond (not (within lowest_total highest_total m.lowest && within lowest_total highest_total m.highest)) (not_coded 5)
    (record { refusal = 0; numbers = coded_numbers m })))

-- 1 to 5
unfoldable pub coded_profile : Profile → CodedProfile
coded_profile p =
    cond (bad_count p) (not_coded 1)
    (cond (bad_length p) (not_coded 2)
    (coded_with (numbers_of p) (bad_point p) (bad_rise p)))

-- an array by the refusal of 1 and 2: as it was, or with the codes of a list, 0 for a number outside its bounds
abbrev pub coded_list : ℕ → ℤ → ℤ → List ℤ → List ℕ → List ℕ
coded_list refusal low high zs = lent_list refusal (λ k. code_or_zero low high (on zs k)) (length zs)

-- ---- 6, 13 and 8, over codes

-- a floor above its ceiling, of a day or the total
abbrev pub codes_crossed : List ℕ → List ℕ → ℕ → ℕ → ℕ → Bool
codes_crossed fs cs n L U = ltb (first_crossed (at fs) (at cs) n) n || ltb U L

-- 6, then 13, or 0, by whether a day's floor is above its ceiling
abbrev pub range_refusal : Bool → CodedNumbers → ℕ
range_refusal crossed m = cond (crossed || ltb m.highest m.lowest) 6 (cond (not (ltb m.first m.days)) 13 0)

-- what opening over codes gives: its refusal, what the days' ranges are then, and the total's range, 0 beside a refusal
pub record RangesOpened : Type 0 where
  pub refusal : ℕ
  pub floors : List ℕ
  pub ceilings : List ℕ
  pub lowest : ℕ
  pub highest : ℕ

abbrev pub no_ranges : ℕ → List ℕ → List ℕ → RangesOpened
no_ranges number fs cs = record { refusal = number; floors = fs; ceilings = cs; lowest = 0; highest = 0 }

abbrev pub ranges_as : Result TotalRange Refusal → List ℕ → List ℕ → RangesOpened
ranges_as (Ok t) fs cs = record { refusal = 0; floors = fs; ceilings = cs; lowest = t.lowest; highest = t.highest }
ranges_as (Err refusal) fs cs = no_ranges (refusal_number refusal) fs cs

abbrev pub ranges_with : Tight → RangesOpened
ranges_with t =
    cond t.found (record { refusal = 0; floors = t.floors; ceilings = t.ceilings; lowest = t.lowest; highest = t.highest })
    (no_ranges 8 t.floors t.ceilings)

unfoldable pub ranges_opened : Box → RangesOpened
ranges_opened b =
    cond (codes_crossed b.floors b.ceilings b.days b.lowest b.highest) (no_ranges 6 b.floors b.ceilings)
    (cond (not (ltb b.first b.days)) (no_ranges 13 b.floors b.ceilings)
    (ranges_with (tightened b)))

-- a session of ranges that are opened
abbrev pub session_with : Box → RangesOpened → Opened
session_with b r =
    cond (eqb r.refusal 0)
    (record { refusal = 0; session = fresh b.days b.first b.rises (record { floors = r.floors; ceilings = r.ceilings; lowest = r.lowest; highest = r.highest }) })
    (refused_with r.refusal)

unfoldable pub opened_codes : Box → Opened
opened_codes b = session_with b (ranges_opened b)
