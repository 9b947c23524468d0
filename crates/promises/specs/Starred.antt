-- Document 01's starred profiles, worked by hand there, as one table; with profiles of request One, cuts of request Two, and a table of sheets of request Three.
use Rattle.std.specs.Prelude.{◌≡◌, refl, Bool, cond, List, [], ◌∷◌, ◌++◌, map, ℕ, zero, suc, ◌+◌, ◌-◌, min, ℤ, pos, negsuc, eqb, ltb, length, take, replicate, None, Option, Some}
use Rattle.limits.specs.Limits.{lowest_point, lowest_rise, lowest_total}
use Rattle.theory_lists.specs.Sum.{sum_for, at}
use Rattle.theory_lists.specs.Written.{written}
use Rattle.theory_lists.specs.First.{first_where}
use Rattle.theory_lists.specs.Front.{in_front}
use Rattle.base_codes.specs.Code.{code}
use Rattle.theory_chains.specs.Fit.{fit_from}
use Rattle.theory_method.specs.Counted.{counted}
use Rattle.theory_method.specs.Shift.{shift_from}
use Rattle.theory_method.specs.Filter.{tightened, tight_ceilings, tight_floors, raised, lowered_from, carried, forwarded, shifted, spare, held}
use Rattle.tighten_passes.specs.Round.{over, rounded, below}
use Rattle.session.specs.Profile.{Profile}
use Rattle.session.specs.Showing.{floor_on, ceiling_on, total_floor, total_ceiling}
use Rattle.session.specs.Opening.{numbers_with, profile, opened, early_opening, codes, Opened}
use Rattle.session.specs.declared.Numbers.{Numbers}
use Rattle.session.specs.declared.Session.{Session}
use Rattle.session_cuts.specs.declared.Cut.{Cut}
use Rattle.session_cuts.specs.declared.Cut.TheVariants.{DayFloor, DayCeiling, TotalCeiling}
use Rattle.session_order.specs.Order.{days_where, insert_day, settled_order}
use Rattle.session_cutting.specs.Cutting.{after_cut, early_cutting, clipped, list_after, after_numbered, AfterCut}
use Rattle.session_sheets.specs.Sheets.{AfterSheet, Answered, not_asked, after_cuts, sheet_refusal, answers_to, after_sheet, list_after_sheet}
use Rattle.session_sheets.specs.declared.AskedSheet.{AskedSheet}

-- from .. to
pub record Range : Type 0 where
  pub from : ℤ
  pub to : ℤ

infix 70 ◌⋯◌
abbrev pub ◌⋯◌ : ℕ → ℕ → Range
a ⋯ b = record { from = pos a; to = pos b }

-- what is answered: a refusal's number, and whether the session is spent; or the total's range and each day's, after a cut with the days that
-- changed, as they are listed; or how many rounds a day's ceiling takes at opening
pub data Answer : Type 0 where
  refused : ℕ → Answer
  spent : ℕ → Answer
  ranges : Range → List Range → Answer
  changed : List ℕ → Range → List Range → Answer
  takes : ℕ → ℕ → Answer

abbrev totals : Session → Range
totals s = record { from = total_floor s; to = total_ceiling s }

abbrev days : Session → ℕ → ℕ → List Range
days s i zero = []
days s i (suc m) = record { from = floor_on s i; to = ceiling_on s i } ∷ days s (suc i) m

abbrev pub opening : Opened → Answer
opening o = cond (eqb o.refusal 0) (ranges (totals o.session) (days o.session 0 o.session.days)) (refused o.refusal)

-- the days that a cut puts into a list of n places, as many as it says
abbrev listed : Session → AfterCut → List ℕ
listed s r = take r.answer.changed (list_after s r (replicate s.days 0))

abbrev pub cutting : Session → AfterCut → Answer
cutting s r =
    cond (eqb r.answer.refusal 0) (changed (listed s r) (totals r.session) (days r.session 0 r.session.days))
    (cond r.session.spent (spent r.answer.refusal) (refused r.answer.refusal))

-- the answers of cuts, one after another, each with a list for changed days of n places
abbrev pub answers : Session → List Cut → List Answer
answers s [] = []
answers s (c ∷ cs) = let r : AfterCut = after_cut s c s.days in cutting s r ∷ answers r.session cs

-- a profile by its first counted day, its days' ranges, its rises and its total's range; document 01's count from day 0 on
abbrev pub profile_from : ℕ → List Range → List ℤ → Range → Profile
profile_from first ds rs t =
    let numbers : Numbers = numbers_with (length ds) first t.from t.to in
    profile numbers (map (λ (r : Range). r.from) ds) (map (λ (r : Range). r.to) ds) rs

abbrev pub starred_profile : List Range → List ℤ → Range → Profile
starred_profile = profile_from 0

-- the rounds that a day's ceiling v takes after r (document 01): one more while the overload is over the margin, at most as many as there is fuel
unfoldable pub rounds_from : (ℕ → Bool) → (ℕ → ℕ) → ℕ → ℕ → ℕ → ℕ → ℕ → ℕ → ℕ
rounds_from w a n i margin zero v r = r
rounds_from w a n i margin (suc fuel) v r = cond (ltb margin (over w a n i v)) (rounds_from w a n i margin fuel (rounded w a n i margin v) (r + 1)) r

-- the rounds that day i's ceiling takes at opening, over codes: only differences enter a round, so that these are the rounds of the points. The day starts
-- from the smaller of its own ceiling and the next day's lowered one; each round lowers it, so that it is fuel enough
abbrev pub rounds_on : Profile → ℕ → ℕ
rounds_on p i =
    let n : ℕ = p.days in
    let w : ℕ → Bool = counted p.first n in
    let rises : List ℕ = codes lowest_rise p.rises (n - 1) in
    let floors : List ℕ = forwarded (codes lowest_point p.floors n) rises n in
    let ceilings : List ℕ = codes lowest_point p.ceilings n in
    let margin : ℕ = code lowest_total p.highest - held n p.first (at floors) in
    let start : ℕ = min (lowered_from floors ceilings rises n w margin (n - (i + 1))) (shifted ceilings rises n i) in
    rounds_from w (shifted floors rises n) n i margin start start 0

-- what opening a profile answers, then each cut, then how many rounds the days take that are asked for
abbrev pub replies : Profile → List Cut → List ℕ → List Answer
replies p cs ds = (opening (opened p) ∷ answers (opened p).session cs) ++ map (λ i. takes i (rounds_on p i)) ds

pub record Row : Type 0 where
  pub given : Profile
  pub cuts : List Cut
  pub asked : List ℕ
  pub gives : List Answer

abbrev opens : Profile → Answer → Row
opens p a = record { given = p; cuts = []; asked = []; gives = a ∷ [] }

abbrev A : Profile
A = starred_profile (2 ⋯ 6 ∷ 4 ⋯ 7 ∷ 4 ⋯ 7 ∷ []) (pos 0 ∷ pos 0 ∷ []) (10 ⋯ 12)

abbrev A_ranges : Answer
A_ranges = ranges (10 ⋯ 12) (2 ⋯ 4 ∷ 4 ⋯ 5 ∷ 4 ⋯ 6 ∷ [])

abbrev flat : List ℤ
flat = pos 0 ∷ []

-- a cut of four days 0..9
abbrev four : List Range
four = 0 ⋯ 9 ∷ 0 ⋯ 9 ∷ 0 ⋯ 9 ∷ 0 ⋯ 9 ∷ []

abbrev cuts_four : Cut → Answer → Row
cuts_four c a = record { given = starred_profile four (pos 0 ∷ pos 0 ∷ pos 0 ∷ []) (0 ⋯ 36); cuts = c ∷ []; asked = []; gives = ranges (0 ⋯ 36) four ∷ a ∷ [] }

abbrev pub table : List Row
table =
    -- A
    opens A A_ranges
    -- B
    ∷ record {
      given = A;
      cuts = DayFloor 0 (pos 3) ∷ TotalCeiling 0 (pos 11) ∷ [];
      asked = [];
      gives = A_ranges ∷ changed (0 ∷ 1 ∷ 2 ∷ []) (11 ⋯ 12) (3 ⋯ 4 ∷ 4 ⋯ 4 ∷ 4 ⋯ 5 ∷ []) ∷ changed (0 ∷ 2 ∷ []) (11 ⋯ 11) (3 ⋯ 3 ∷ 4 ⋯ 4 ∷ 4 ⋯ 4 ∷ []) ∷ [];
    }
    -- C: the cuts of B in the other order end the same (what the first of them gives, here and in D, document 01 leaves out)
    ∷ record {
      given = A;
      cuts = TotalCeiling 0 (pos 11) ∷ DayFloor 0 (pos 3) ∷ [];
      asked = [];
      gives = A_ranges ∷ changed (0 ∷ 1 ∷ 2 ∷ []) (10 ⋯ 11) (2 ⋯ 3 ∷ 4 ⋯ 4 ∷ 4 ⋯ 5 ∷ []) ∷ changed (0 ∷ 2 ∷ []) (11 ⋯ 11) (3 ⋯ 3 ∷ 4 ⋯ 4 ∷ 4 ⋯ 4 ∷ []) ∷ [];
    }
    -- D
    ∷ record {
      given = A;
      cuts = TotalCeiling 0 (pos 11) ∷ DayFloor 0 (pos 4) ∷ [];
      asked = [];
      gives = A_ranges ∷ changed (0 ∷ 1 ∷ 2 ∷ []) (10 ⋯ 11) (2 ⋯ 3 ∷ 4 ⋯ 4 ∷ 4 ⋯ 5 ∷ []) ∷ spent 8 ∷ [];
    }
    -- E
    ∷ opens (starred_profile (2 ⋯ 6 ∷ 4 ⋯ 7 ∷ 4 ⋯ 7 ∷ 5 ⋯ 7 ∷ 6 ⋯ 9 ∷ 7 ⋯ 9 ∷ []) (pos 0 ∷ pos 0 ∷ pos 0 ∷ pos 0 ∷ pos 0 ∷ []) (28 ⋯ 29))
    (ranges (28 ⋯ 29) (2 ⋯ 3 ∷ 4 ⋯ 4 ∷ 4 ⋯ 5 ∷ 5 ⋯ 6 ∷ 6 ⋯ 7 ∷ 7 ⋯ 8 ∷ []))
    -- F: day 0 takes two rounds
    ∷ record {
      given = starred_profile (1 ⋯ 5 ∷ 4 ⋯ 5 ∷ 6 ⋯ 6 ∷ 6 ⋯ 7 ∷ []) (pos 0 ∷ pos 0 ∷ pos 0 ∷ []) (17 ⋯ 18);
      cuts = [];
      asked = 0 ∷ [];
      gives = ranges (17 ⋯ 18) (1 ⋯ 2 ∷ 4 ⋯ 5 ∷ 6 ⋯ 6 ∷ 6 ⋯ 7 ∷ []) ∷ takes 0 2 ∷ [];
    }
    -- G
    ∷ opens (starred_profile (0 ⋯ 5 ∷ 0 ⋯ 5 ∷ []) flat (9 ⋯ 10)) (ranges (9 ⋯ 10) (4 ⋯ 5 ∷ 5 ⋯ 5 ∷ []))
    -- H
    ∷ opens (starred_profile (0 ⋯ 6 ∷ 1 ⋯ 7 ∷ []) (pos 1 ∷ []) (6 ⋯ 13)) (ranges (6 ⋯ 13) (0 ⋯ 6 ∷ 4 ⋯ 7 ∷ []))
    -- I
    ∷ opens (starred_profile (3 ⋯ 8 ∷ []) [] (5 ⋯ 6)) (ranges (5 ⋯ 6) (5 ⋯ 6 ∷ []))
    -- J, and with rise -1
    ∷ opens (starred_profile (5 ⋯ 9 ∷ 0 ⋯ 4 ∷ []) flat (0 ⋯ 20)) (refused 8)
    ∷ opens (starred_profile (5 ⋯ 9 ∷ 0 ⋯ 4 ∷ []) (negsuc 0 ∷ []) (0 ⋯ 20)) (ranges (9 ⋯ 9) (5 ⋯ 5 ∷ 4 ⋯ 4 ∷ []))
    -- of request One: K is A with day 0 not counted, L has floors that two rounds raise; and days that are not in the profile
    ∷ opens (profile_from 1 (2 ⋯ 6 ∷ 4 ⋯ 7 ∷ 4 ⋯ 7 ∷ []) (pos 0 ∷ pos 0 ∷ []) (10 ⋯ 12)) (ranges (10 ⋯ 12) (2 ⋯ 6 ∷ 4 ⋯ 6 ∷ 5 ⋯ 7 ∷ []))
    ∷ opens (profile_from 1 (0 ⋯ 5 ∷ 0 ⋯ 10 ∷ []) flat (8 ⋯ 10)) (ranges (8 ⋯ 10) (0 ⋯ 5 ∷ 8 ⋯ 10 ∷ []))
    ∷ opens (profile_from 2 (5 ⋯ 9 ∷ 0 ⋯ 4 ∷ []) flat (0 ⋯ 20)) (refused 13)
    ∷ opens (profile_from 1 (5 ⋯ 9 ∷ 0 ⋯ 4 ∷ []) flat (0 ⋯ 20)) (refused 8)
    ∷ opens (profile_from 3 (2 ⋯ 6 ∷ 4 ⋯ 7 ∷ 4 ⋯ 7 ∷ []) (pos 0 ∷ pos 0 ∷ []) (12 ⋯ 10)) (refused 6)
    -- of request Two: losses 2, 1, 2; 7, 6, 4, 0; 0, 5, 1; 6, 6, 6, 0; 0, 5, 5, 5
    ∷ record {
      given = A;
      cuts = DayFloor 0 (pos 4) ∷ [];
      asked = [];
      gives = A_ranges ∷ changed (0 ∷ 2 ∷ 1 ∷ []) (12 ⋯ 12) (4 ⋯ 4 ∷ 4 ⋯ 4 ∷ 4 ⋯ 4 ∷ []) ∷ [];
    }
    ∷ cuts_four (TotalCeiling 0 (pos 10)) (changed (0 ∷ 1 ∷ 2 ∷ []) (0 ⋯ 10) (0 ⋯ 2 ∷ 0 ⋯ 3 ∷ 0 ⋯ 5 ∷ 0 ⋯ 9 ∷ []))
    ∷ record {
      given = starred_profile (0 ⋯ 4 ∷ 0 ⋯ 10 ∷ 0 ⋯ 6 ∷ []) (negsuc 9 ∷ negsuc 9 ∷ []) (0 ⋯ 20);
      cuts = TotalCeiling 0 (pos 5) ∷ [];
      asked = [];
      gives = ranges (0 ⋯ 20) (0 ⋯ 4 ∷ 0 ⋯ 10 ∷ 0 ⋯ 6 ∷ []) ∷ changed (1 ∷ 2 ∷ []) (0 ⋯ 5) (0 ⋯ 4 ∷ 0 ⋯ 5 ∷ 0 ⋯ 5 ∷ []) ∷ [];
    }
    ∷ cuts_four (DayCeiling 2 (pos 3)) (changed (0 ∷ 1 ∷ 2 ∷ []) (0 ⋯ 18) (0 ⋯ 3 ∷ 0 ⋯ 3 ∷ 0 ⋯ 3 ∷ 0 ⋯ 9 ∷ []))
    ∷ cuts_four (DayFloor 1 (pos 5)) (changed (1 ∷ 2 ∷ 3 ∷ []) (15 ⋯ 36) (0 ⋯ 9 ∷ 5 ⋯ 9 ∷ 5 ⋯ 9 ∷ 5 ⋯ 9 ∷ []))
    ∷ []

-- ---- sheets: from an opened session, with room for all answers and a list for changed days of four places, each of which holds 99

-- what a sheet answers: each cut's refusal and count; the number of days; the list afterwards; and the ranges at its end, or that the session ends spent
pub record SheetAnswer : Type 0 where
  pub cuts : List (ℕ × ℕ)
  pub number : ℕ
  pub list : List ℕ
  pub ends : Answer

abbrev pub sheet_reply : Profile → List (Option Cut) → SheetAnswer
sheet_reply p cs =
    let s : Session = (opened p).session in
    let sheet : AskedSheet = record { count = length cs; entries = in_front (map (λ (c : Option Cut). record { cut = c }) cs) (replicate 512 not_asked) } in
    let r : AfterSheet = after_sheet s sheet (length cs) 4 in
    record {
      cuts = map (λ (a : Answered). (a.answer.refusal, a.answer.changed)) (take r.answers.count r.answers.entries);
      number = r.changed;
      list = list_after_sheet s r (replicate 4 99);
      ends = cond r.session.spent (spent r.refusal) (ranges (totals r.session) (days r.session 0 r.session.days));
    }

pub record SheetRow : Type 0 where
  pub given : Profile
  pub asked : List (Option Cut)
  pub gives : SheetAnswer

abbrev pub sheet_table : List SheetRow
sheet_table =
    -- four cuts are refused; from start to end the days lost 2, 1, 2
    record {
      given = A;
      asked = Some (DayFloor 0 (pos 3)) ∷ Some (DayFloor 3 (pos 5)) ∷ None ∷ Some (TotalCeiling 1 (pos 11)) ∷ Some (DayFloor 1 (pos 5000)) ∷ Some (TotalCeiling 0 (pos 11)) ∷ [];
      gives = record {
        cuts = (0, 3) ∷ (7, 0) ∷ (12, 0) ∷ (12, 0) ∷ (3, 0) ∷ (0, 2) ∷ [];
        number = 3;
        list = 0 ∷ 2 ∷ 1 ∷ 99 ∷ [];
        ends = ranges (11 ⋯ 11) (3 ⋯ 3 ∷ 4 ⋯ 4 ∷ 4 ⋯ 4 ∷ []);
      };
    }
    -- the second cut spends the session: the list is left as it came
    ∷ record {
      given = A;
      asked = Some (TotalCeiling 0 (pos 11)) ∷ Some (DayFloor 0 (pos 4)) ∷ Some (DayFloor 0 (pos 3)) ∷ None ∷ [];
      gives = record { cuts = (0, 3) ∷ (8, 0) ∷ (9, 0) ∷ (12, 0) ∷ []; number = 0; list = 99 ∷ 99 ∷ 99 ∷ 99 ∷ []; ends = spent 0 };
    }
    -- no cut
    ∷ record { given = A; asked = []; gives = record { cuts = []; number = 0; list = 99 ∷ 99 ∷ 99 ∷ 99 ∷ []; ends = A_ranges } }
    -- each cut changes one day; from start to end the days lost 3, 1, 0
    ∷ record {
      given = starred_profile (0 ⋯ 4 ∷ 0 ⋯ 10 ∷ 0 ⋯ 6 ∷ []) (negsuc 9 ∷ negsuc 9 ∷ []) (0 ⋯ 20);
      asked = Some (DayCeiling 0 (pos 3)) ∷ Some (TotalCeiling 0 (pos 9)) ∷ Some (DayCeiling 0 (pos 1)) ∷ [];
      gives = record {
        cuts = (0, 1) ∷ (0, 1) ∷ (0, 1) ∷ [];
        number = 2;
        list = 0 ∷ 1 ∷ 99 ∷ 99 ∷ [];
        ends = ranges (0 ⋯ 9) (0 ⋯ 1 ∷ 0 ⋯ 9 ∷ 0 ⋯ 6 ∷ []);
      };
    }
    ∷ []

-- each row of the tables gets the answers that it says
abbrev pub Starred : Type 0
Starred = map (λ (r : Row). replies r.given r.cuts r.asked) table ≡ map (λ (r : Row). r.gives) table

abbrev pub StarredSheets : Type 0
StarredSheets = map (λ (r : SheetRow). sheet_reply r.given r.asked) sheet_table ≡ map (λ (r : SheetRow). r.gives) sheet_table
