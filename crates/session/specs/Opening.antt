-- Document 01: opening, its refusals in their order, and what it hands back.
use Rattle.std.specs.Prelude.{Bool, true, false, cond, not, ◌&&◌, ◌||◌, List, [], ◌∷◌, ℕ, ◌-◌, ℤ, pos, eqb, ltb, length}
use Rattle.std.specs.Int.Signed.{lt_z}
use Rattle.limits.specs.Limits.{most_days, lowest_point, highest_point, lowest_rise, highest_rise, lowest_total, highest_total}
use Rattle.theory_lists.specs.Written.{written}
use Rattle.base_codes.specs.Code.{within, code, on, every}
use Rattle.theory_method.specs.Filter.{Box, box, Tight, tightened, zeros}
use Rattle.session.specs.Profile.{Profile}
use Rattle.session.specs.declared.Numbers.{Numbers}
use Rattle.session.specs.declared.Ranges.{Ranges}
use Rattle.session.specs.declared.Session.{Session}
use Rattle.refusals.specs.Number.{number_or_zero}
use Rattle.session.specs.declared.Opened as Code

-- what is handed over at opening: a profile's numbers and its lists
abbrev pub profile : Numbers → List ℤ → List ℤ → List ℤ → Profile
profile m fs cs rs = record { days = m.days; first = m.first; floors = fs; ceilings = cs; rises = rs; lowest = m.lowest; highest = m.highest }

-- a profile's numbers: the day count, the first counted day and the total's bounds
abbrev pub numbers_with : ℕ → ℕ → ℤ → ℤ → Numbers
numbers_with n first lo hi = record { days = n; first = first; lowest = lo; highest = hi }

abbrev pub numbers_of : Profile → Numbers
numbers_of p = numbers_with p.days p.first p.lowest p.highest

-- what readers give beside a refusal: all are 0
abbrev pub no_numbers : Numbers
no_numbers = numbers_with 0 0 (pos 0) (pos 0)

-- ---- the refusals

-- some day's floor is above its ceiling
abbrev pub crossed : List ℤ → List ℤ → Bool
crossed (f ∷ fs) (c ∷ cs) = lt_z c f || crossed fs cs
crossed [] cs = false
crossed (f ∷ fs) [] = false

-- 1: the day count is 0 or over 512
abbrev pub bad_count : Profile → Bool
bad_count p = eqb p.days 0 || ltb most_days p.days

-- 2: floors or ceilings not n long, or rises not n - 1 long
abbrev pub bad_length : Profile → Bool
bad_length p = not (eqb (length p.floors) p.days && eqb (length p.ceilings) p.days && eqb (length p.rises) (p.days - 1))

-- 3: a point outside its bounds
abbrev pub bad_point : Profile → Bool
bad_point p = not (every (within lowest_point highest_point) p.floors && every (within lowest_point highest_point) p.ceilings)

-- 4: a rise outside its bounds
abbrev pub bad_rise : Profile → Bool
bad_rise p = not (every (within lowest_rise highest_rise) p.rises)

-- 5: a bound of the total outside its bounds
abbrev pub bad_total : Profile → Bool
bad_total p = not (within lowest_total highest_total p.lowest && within lowest_total highest_total p.highest)

-- 6: a floor above its ceiling, of a day or the total
abbrev pub bad_range : Profile → Bool
bad_range p = crossed p.floors p.ceilings || lt_z p.highest p.lowest

-- 13: the first counted day is not in the profile
abbrev pub bad_first : Profile → Bool
bad_first p = not (ltb p.first p.days)

-- the first refusal of opening before 8 that applies, or 0
unfoldable pub early_opening : Profile → ℕ
early_opening p =
    cond (bad_count p) 1
    (cond (bad_length p) 2
    (cond (bad_point p) 3
    (cond (bad_rise p) 4
    (cond (bad_total p) 5
    (cond (bad_range p) 6
    (cond (bad_first p) 13 0))))))

-- ---- the session

-- the codes of a list's first n numbers, in an array of 512
abbrev pub codes : ℤ → List ℤ → ℕ → List ℕ
codes low zs n = written (λ k. code low (on zs k)) n zeros

-- a profile as what tightening takes
abbrev pub box_in : Profile → Box
box_in p =
    box (codes lowest_point p.floors p.days) (codes lowest_point p.ceilings p.days)
    (codes lowest_rise p.rises (p.days - 1)) p.days p.first (code lowest_total p.lowest) (code lowest_total p.highest)

-- the ranges of the days and of the total, tightened
abbrev pub narrowed : Profile → Tight
narrowed p = tightened (box_in p)

-- a fresh session: an opened profile with its tightened ranges, not spent
abbrev pub fresh : ℕ → ℕ → List ℕ → Ranges → Session
fresh n first rs r = record { days = n; first = first; rises = rs; opened = r; present = r; spent = false }

abbrev pub ranges_of : Tight → Ranges
ranges_of t = record { floors = t.floors; ceilings = t.ceilings; lowest = t.lowest; highest = t.highest }

-- one day, with all values 0
abbrev pub all_zero : Ranges
all_zero = record {
  floors = written (λ k. code lowest_point (pos 0)) 1 zeros;
  ceilings = written (λ k. code lowest_point (pos 0)) 1 zeros;
  lowest = code lowest_total (pos 0);
  highest = code lowest_total (pos 0);
}

-- what opening hands back: the refusal's number, 0 for none, and the session
pub record Opened : Type 0 where
  pub refusal : ℕ
  pub session : Session

abbrev pub opened_as : Code.Opened → Opened
opened_as o = record { refusal = number_or_zero o.refusal; session = o.session }

-- what stands beside a refusal: a spent session of one day with all values 0
abbrev pub refused_with : ℕ → Opened
refused_with number = record { refusal = number; session = record { days = 1; first = 0; rises = zeros; opened = all_zero; present = all_zero; spent = true } }

-- with no earlier refusal: 8 where there is no schedule
abbrev pub opened_with : Box → Tight → Opened
opened_with b t = cond t.found (record { refusal = 0; session = fresh b.days b.first b.rises (ranges_of t) }) (refused_with 8)

unfoldable pub opened : Profile → Opened
opened p =
    cond (eqb (early_opening p) 0) (opened_with (box_in p) (narrowed p)) (refused_with (early_opening p))
