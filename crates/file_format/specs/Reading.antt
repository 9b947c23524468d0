-- Document 01: what the file's reader refuses, in its order. It leaves values to opening and cutting.
use Rattle.std.specs.Prelude.{Bool, true, false, cond, not, ◌&&◌, ◌||◌, List, ℕ, ◌-◌, nat_abs, eqb, ltb, length, None, Option, Some}
use Rattle.limits.specs.Limits.{most_days, most_cuts}
use Rattle.theory_lists.specs.First.{first_where}
use Rattle.session_cuts.specs.declared.Cut.{Cut}
use Rattle.session_cuts.specs.declared.Cut.TheVariants.{DayFloor, DayCeiling, TotalFloor, TotalCeiling}
use Rattle.file_format.specs.Format.{days_begin, day_offset, file_length, day_count, cut_count, days_offset, cuts_offset, rise_at, cut_at}

-- 11: under 18 bytes
abbrev pub no_header : List ℕ → Bool
no_header b = ltb (length b) days_begin

-- 1: the day count is 0 or over 512; more than 512 cuts
abbrev pub bad_counts : List ℕ → Bool
bad_counts b = eqb (day_count b) 0 || ltb most_days (day_count b) || ltb most_cuts (cut_count b)

-- 11: an offset or the length is wrong
abbrev pub bad_layout : List ℕ → Bool
bad_layout b =
    not (eqb (days_offset b) days_begin && eqb (cuts_offset b) (day_offset (day_count b)) && eqb (length b) (file_length (day_count b) (cut_count b)))

-- a total cut whose day is not 0
abbrev pub misplaced : Cut → Bool
misplaced (DayFloor day value) = false
misplaced (DayCeiling day value) = false
misplaced (TotalFloor day value) = not (eqb day 0)
misplaced (TotalCeiling day value) = not (eqb day 0)

-- an unknown kind, or a total cut whose day is not 0
abbrev pub bad_cut : Option Cut → Bool
bad_cut (Some c) = misplaced c
bad_cut None = true

-- 12: the last rise is not 0, or some cut is bad
abbrev pub bad_fields : List ℕ → Bool
bad_fields b =
    not (eqb (nat_abs (rise_at b (day_count b - 1))) 0) || ltb (first_where (λ j. bad_cut (cut_at b j)) (cut_count b)) (cut_count b)

-- the first refusal of reading before 2 that applies, or 0
unfoldable pub early_reading : List ℕ → ℕ
early_reading b =
    cond (no_header b) 11
    (cond (bad_counts b) 1
    (cond (bad_layout b) 11
    (cond (bad_fields b) 12 0)))

-- 2: a lent list is too short for what it would hold
abbrev pub no_room : List ℕ → ℕ → ℕ → ℕ → Bool
no_room b floors ceilings rises = ltb floors (day_count b) || ltb ceilings (day_count b) || ltb rises (day_count b - 1)

-- the first refusal of reading that applies, or 0, with lists of these lengths lent for floors, ceilings and rises
unfoldable pub reading_refusal : List ℕ → ℕ → ℕ → ℕ → ℕ
reading_refusal b floors ceilings rises = cond (eqb (early_reading b) 0) (cond (no_room b floors ceilings rises) 2 0) (early_reading b)
