-- The tables of Starred hold: each row computes. A row is checked by itself, as the whole table at once is too deep for the checker.
use Rattle.std.specs.Prelude.{◌≡◌, refl, List, [], ◌∷◌, ℕ, suc, Bool, true, false, ltb, pos}
use Rattle.theory_lists.specs.Sum.{sum_for}
use Rattle.theory_lists.specs.Written.{written}
use Rattle.theory_lists.specs.First.{first_where}
use Rattle.theory_lists.specs.Front.{in_front}
use Rattle.theory_chains.specs.Fit.{fit_from}
use Rattle.theory_method.specs.Counted.{counted}
use Rattle.theory_method.specs.Shift.{shift_from}
use Rattle.theory_method.specs.Filter.{tightened, tight_ceilings, tight_floors, raised, lowered_from, carried, spare}
use Rattle.session.specs.Opening.{opened, early_opening}
use Rattle.session_order.specs.Order.{days_where, insert_day, settled_order}
use Rattle.session_cutting.specs.Cutting.{after_cut, early_cutting, clipped, list_after, after_numbered}
use Rattle.session_sheets.specs.Sheets.{after_cuts, sheet_refusal, answers_to, after_sheet, list_after_sheet}
use Rattle.std.proofs.Common.{ap}
use Rattle.promises.specs.Starred.{Starred, StarredSheets, Range, ◌⋯◌, starred_profile, opening, takes, rounds_from, rounds_on}
use Rattle.session.specs.Profile.{Profile}
use Rattle.tighten_passes.specs.Round.{over, rounded, below}

-- one row, then the rest
row : {A : Type 0} {x y : A} {xs ys : List A} → x ≡ y → xs ≡ ys → x ∷ xs ≡ y ∷ ys
row e es = cc

-- two rounds, and no third
two : (w : ℕ → Bool) (a : ℕ → ℕ) (n i margin m v : ℕ) → ltb margin (over w a n i v) ≡ true
    → ltb margin (over w a n i (rounded w a n i margin v)) ≡ true
    → ltb margin (over w a n i (rounded w a n i margin (rounded w a n i margin v))) ≡ false
    → rounds_from w a n i margin (suc (suc (suc m))) v 0 ≡ 2
unfolding rounds_from
two w a n i margin m v first second third = rw (first, second, third) refl

abbrev F : Profile
F = starred_profile (1 ⋯ 5 ∷ 4 ⋯ 5 ∷ 6 ⋯ 6 ∷ 6 ⋯ 7 ∷ []) (pos 0 ∷ pos 0 ∷ pos 0 ∷ []) (17 ⋯ 18)

-- from 5 points: both day 0's own ceiling and the next day's lowered one
rounds_of_F : rounds_on F 0 ≡ 2
unfolding counted spare rounded below opened early_opening tightened tight_ceilings tight_floors raised lowered_from first_where carried
    written sum_for fit_from shift_from after_cut early_cutting clipped list_after in_front days_where settled_order insert_day
rounds_of_F = two _ _ _ _ _ 1023002 1023005 refl refl refl

pub starred : Starred
unfolding counted spare opened early_opening tightened tight_ceilings tight_floors raised lowered_from first_where carried written sum_for
    fit_from shift_from after_cut early_cutting clipped list_after in_front days_where settled_order insert_day
starred =
    row refl (row refl (row refl (row refl (row refl (row (ap (λ r. opening (opened F) ∷ takes 0 r ∷ []) rounds_of_F) (row refl (
    row refl (row refl (row refl (row refl (row refl (row refl (row refl (
    row refl (row refl (row refl (row refl (row refl (row refl (row refl (refl)))))))))))))))))))))

pub starred-sheets : StarredSheets
unfolding counted spare opened early_opening tightened tight_ceilings tight_floors raised lowered_from first_where carried written sum_for
    fit_from shift_from after_cut after_numbered early_cutting clipped in_front days_where settled_order insert_day
    after_cuts sheet_refusal answers_to after_sheet list_after_sheet
starred-sheets = refl
