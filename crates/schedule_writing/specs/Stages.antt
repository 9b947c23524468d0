-- Writing by stages, as the code takes them. A reader may pass this page over: the contracts of `write_day` and `write_total` do not cite it.
use Rattle.std.specs.Prelude.{Bool, cond, ◌&&◌, ℕ, ℤ, leb, Option, None, Some, Result, Ok, Err}
use Rattle.limits.specs.Limits.{lowest_point, lowest_total}
use Rattle.theory_lists.specs.Sum.{at}
use Rattle.base_codes.specs.Code.{within, code, decoded}
use Rattle.session.specs.declared.Session.{Session}
use Rattle.refusals.specs.declared.Refusal.{Refusal}
use Rattle.refusals.specs.Number.{refusal_number}

-- what the checks of a value say: the refusal's number, 0 for none, and beside 0 the value's code
pub record ValueChecked : Type 0 where
  pub refusal : ℕ
  pub code : ℕ

-- a value that is refused, and one that is taken
abbrev pub refused_as : ℕ → ValueChecked
refused_as number = record { refusal = number; code = 0 }

abbrev pub taken : ℕ → ValueChecked
taken c = record { refusal = 0; code = c }

abbrev pub value_as : Result ℕ Refusal → ValueChecked
value_as (Ok c) = taken c
value_as (Err refusal) = refused_as (refusal_number refusal)

-- a value by its range, which is given as codes above low. 9: the session is spent; 10: the value is outside the range
unfoldable pub checked : ℤ → ℕ → ℕ → Bool → ℤ → ValueChecked
checked low floor ceiling spent value =
    cond spent (refused_as 9)
    (cond (within (decoded low floor) (decoded low ceiling) value) (taken (code low value)) (refused_as 10))

-- a day's value, and the total's, by the present range
abbrev pub day_checked : Session → ℕ → ℤ → ValueChecked
day_checked s day value = checked lowest_point (at s.present.floors day) (at s.present.ceilings day) s.spent value

abbrev pub total_checked : Session → ℤ → ValueChecked
total_checked s value = checked lowest_total s.present.lowest s.present.highest s.spent value

-- checking by a value's code; a value outside its bounds is within no range
abbrev pub ranged : Option ℕ → ℕ → ℕ → ValueChecked
ranged (Some c) floor ceiling = cond (leb floor c && leb c ceiling) (taken c) (refused_as 10)
ranged None floor ceiling = refused_as 10

abbrev pub checked_code : Option ℕ → ℕ → ℕ → Bool → ValueChecked
checked_code value floor ceiling spent = cond spent (refused_as 9) (ranged value floor ceiling)
