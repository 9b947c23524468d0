-- Document 01: the profile file. A header of 16 bytes, 2 bytes for document 02's first counted day, each day 6 bytes, each cut 8 bytes, and no byte after.
use Rattle.std.specs.Prelude.{List, ◌++◌, ℕ, ◌+◌, ◌-◌, ◌*◌, ℤ, pos, length, None, Option, Some}
use Rattle.limits.specs.Limits.{most_days, most_cuts}
use Rattle.theory_lists.specs.ListOf.{list_of}
use Rattle.theory_lists.specs.Rows.{rows}
use Rattle.base_codes.specs.Code.{on}
use Rattle.base_little_endian.specs.Fields.{u16_at, i16_at, i32_at, u16_bytes, i16_bytes, i32_bytes}
use Rattle.session.specs.Profile.{Profile}
use Rattle.session.specs.Opening.{numbers_with, profile, numbers_of}
use Rattle.session.specs.declared.Numbers.{Numbers}
use Rattle.session_cuts.specs.declared.Cut.{Cut}
use Rattle.session_cuts.specs.declared.Cut.TheVariants.{DayFloor}
use Rattle.session_cuts.specs.Numbered.{numbered}
use Rattle.session_cuts.specs.Sheet.{cut_on, kind_of, day_of, value_of}

-- how many bytes the header, the first counted day, a day and a cut take
abbrev pub header_length : ℕ
header_length = 16

abbrev pub first_day_length : ℕ
first_day_length = 2

abbrev pub day_length : ℕ
day_length = 6

abbrev pub cut_length : ℕ
cut_length = 8

-- where the days begin, where day k begins, where the cuts of n days begin, where cut j of them begins
abbrev pub days_begin : ℕ
days_begin = header_length + first_day_length

abbrev pub day_offset : ℕ → ℕ
day_offset k = days_begin + k * day_length

abbrev pub cut_offset : ℕ → ℕ → ℕ
cut_offset n j = day_offset n + j * cut_length

-- how long a file of n days and m cuts is
abbrev pub file_length : ℕ → ℕ → ℕ
file_length n m = cut_offset n m

-- the longest file
abbrev pub longest_file : ℕ
longest_file = file_length most_days most_cuts

-- ---- what a file's bytes say

abbrev pub day_count : List ℕ → ℕ
day_count b = u16_at b 0

abbrev pub cut_count : List ℕ → ℕ
cut_count b = u16_at b 2

abbrev pub days_offset : List ℕ → ℕ
days_offset b = u16_at b 4

abbrev pub cuts_offset : List ℕ → ℕ
cuts_offset b = u16_at b 6

abbrev pub total_floor_at : List ℕ → ℤ
total_floor_at b = i32_at b 8

abbrev pub total_ceiling_at : List ℕ → ℤ
total_ceiling_at b = i32_at b 12

-- the first counted day stands behind the header
abbrev pub first_day_in : List ℕ → ℕ
first_day_in b = u16_at b header_length

-- day k: its floor, its ceiling, and the rise to the next day
abbrev pub floor_at : List ℕ → ℕ → ℤ
floor_at b k = i16_at b (day_offset k)

abbrev pub ceiling_at : List ℕ → ℕ → ℤ
ceiling_at b k = i16_at b (day_offset k + 2)

abbrev pub rise_at : List ℕ → ℕ → ℤ
rise_at b k = i16_at b (day_offset k + 4)

-- the cut that begins at a place: kind, day, value
abbrev pub numbered_at : List ℕ → ℕ → Option Cut
numbered_at b i = numbered (u16_at b i) (u16_at b (i + 2)) (i32_at b (i + 4))

-- cut j
abbrev pub cut_at : List ℕ → ℕ → Option Cut
cut_at b j = numbered_at b (cut_offset (day_count b) j)

-- a numbered cut whose kind is known; the reader refuses files with others
abbrev pub known : Option Cut → Cut
known (Some c) = c
known None = DayFloor 0 (pos 0)

-- a profile's numbers, beside its lists
abbrev pub numbers_in : List ℕ → Numbers
numbers_in b = numbers_with (day_count b) (first_day_in b) (total_floor_at b) (total_ceiling_at b)

-- the profile and the cuts of a file that the reader takes; the last rise is not handed on
unfoldable pub profile_in : List ℕ → Profile
profile_in b = profile (numbers_in b) (list_of (floor_at b) (day_count b)) (list_of (ceiling_at b) (day_count b)) (list_of (rise_at b) (day_count b - 1))

unfoldable pub cuts_in : List ℕ → List Cut
cuts_in b = list_of (λ j. known (cut_at b j)) (cut_count b)

-- ---- the bytes of a profile and its cuts

-- of a profile's numbers and how many cuts there are: the header, and the first counted day behind it
unfoldable pub header : Numbers → ℕ → List ℕ
header m cuts =
    u16_bytes m.days ++ u16_bytes cuts ++ u16_bytes days_begin ++ u16_bytes (day_offset m.days) ++ i32_bytes m.lowest ++ i32_bytes m.highest
    ++ u16_bytes m.first

-- floor, ceiling, rise to the next day
unfoldable pub day_bytes : ℤ → ℤ → ℤ → List ℕ
day_bytes floor ceiling rise = i16_bytes floor ++ i16_bytes ceiling ++ i16_bytes rise

unfoldable pub cut_bytes : Cut → List ℕ
cut_bytes c = u16_bytes (kind_of c) ++ u16_bytes (day_of c) ++ i32_bytes (value_of c)

-- the days of a profile; past the end of the list of rises, on the last day, stands 0
abbrev pub day_row : Profile → ℕ → List ℕ
day_row p k = day_bytes (on p.floors k) (on p.ceilings k) (on p.rises k)

unfoldable pub file : Profile → List Cut → List ℕ
file p cs = header (numbers_of p) (length cs) ++ rows (day_row p) p.days ++ rows (λ j. cut_bytes (cut_on cs j)) (length cs)
