-- A session as a byte string of one length, as the panel's firmware holds it: the day count and whether it is spent, 2 bytes each; the floor and the
-- ceiling of the total, 4 bytes each, as opened and at present; then the rises, the floors and ceilings as opened, and those at present, each as 512
-- cells of 2 bytes; then the first counted day, 2 bytes. All fields are little-endian. A cell has what the session holds, and past the last day 0.
use Rattle.std.specs.Prelude.{Bool, cond, not, List, ◌++◌, ℕ, ◌+◌, ◌-◌, ◌*◌, min, max, eqb, replicate}
use Rattle.std.proofs.lemmas.List.Edits.{sets}
use Rattle.limits.specs.Limits.{most_days, lowest_total, highest_total, highest_level, highest_rise_code}
use Rattle.theory_lists.specs.Sum.{at}
use Rattle.theory_lists.specs.Written.{written}
use Rattle.base_codes.specs.Code.{within, code, decoded}
use Rattle.theory_method.specs.Filter.{zeros}
use Rattle.base_little_endian.specs.Fields.{u16_at, i32_at, u16_bytes, i32_bytes}
use Rattle.c_lists.specs.Lists.{cell_bytes}
use Rattle.session.specs.declared.Ranges.{Ranges}
use Rattle.session.specs.declared.Session.{Session}

-- ---- where each field stands: its place is the one before it and the size of what stands there

-- how many bytes a cell and a bound of the total take
abbrev pub cell_length : ℕ
cell_length = 2

abbrev pub total_length : ℕ
total_length = 4

-- both bounds of the total; a block of cells; the blocks of floors and ceilings
abbrev pub totals_length : ℕ
totals_length = 2 * total_length

abbrev pub block_length : ℕ
block_length = most_days * cell_length

abbrev pub ranges_length : ℕ
ranges_length = 2 * block_length

abbrev pub days_place : ℕ
days_place = 0

abbrev pub mark_place : ℕ
mark_place = days_place + cell_length

abbrev pub opened_totals_place : ℕ
opened_totals_place = mark_place + cell_length

abbrev pub present_totals_place : ℕ
present_totals_place = opened_totals_place + totals_length

abbrev pub rises_place : ℕ
rises_place = present_totals_place + totals_length

abbrev pub opened_place : ℕ
opened_place = rises_place + block_length

abbrev pub present_place : ℕ
present_place = opened_place + ranges_length

abbrev pub first_place : ℕ
first_place = present_place + ranges_length

abbrev pub session_bytes : ℕ
session_bytes = first_place + cell_length

-- ---- the bytes of a session

unfoldable pub total_bytes : ℕ → ℕ → List ℕ
total_bytes least most = i32_bytes (decoded lowest_total least) ++ i32_bytes (decoded lowest_total most)

unfoldable pub block_bytes : List ℕ → ℕ → List ℕ
block_bytes cells n = cell_bytes (at cells) n ++ replicate ((most_days - n) * cell_length) 0

unfoldable pub encoding : Session → List ℕ
encoding s =
    u16_bytes s.days ++ u16_bytes (cond s.spent 1 0)
    ++ total_bytes s.opened.lowest s.opened.highest ++ total_bytes s.present.lowest s.present.highest
    ++ block_bytes s.rises s.days
    ++ (block_bytes s.opened.floors s.days ++ block_bytes s.opened.ceilings s.days)
    ++ (block_bytes s.present.floors s.days ++ block_bytes s.present.ceilings s.days)
    ++ u16_bytes s.first

-- ---- the session in bytes: numbers in bounds, whatever the bytes are

-- n cells from a place on, each at most that, and 0 past them
abbrev pub cells_at : List ℕ → ℕ → ℕ → ℕ → List ℕ
cells_at b n most place = written (λ k. min (u16_at b (place + k * cell_length)) most) n zeros

-- a bound of the total, as it is held, or 0 where it is outside its bounds
abbrev pub total_at : List ℕ → ℕ → ℕ
total_at b place = cond (within lowest_total highest_total (i32_at b place)) (code lowest_total (i32_at b place)) 0

unfoldable pub ranges_at : List ℕ → ℕ → ℕ → ℕ → Ranges
ranges_at b n totals place =
    record { floors = cells_at b n highest_level place; ceilings = cells_at b n highest_level (place + block_length); lowest = total_at b totals; highest = total_at b (totals + total_length) }

abbrev pub days_at : List ℕ → ℕ
days_at b = max 1 (min most_days (u16_at b days_place))

-- the first counted day, one of those
abbrev pub first_at : List ℕ → ℕ
first_at b = min (u16_at b first_place) (days_at b - 1)

unfoldable pub decoding : List ℕ → Session
decoding b =
    record {
      days = days_at b;
      first = first_at b;
      rises = cells_at b (days_at b) highest_rise_code rises_place;
      opened = ranges_at b (days_at b) opened_totals_place opened_place;
      present = ranges_at b (days_at b) present_totals_place present_place;
      spent = not (eqb (u16_at b mark_place) 0);
    }

-- ---- what a cut makes of the bytes

-- the mark, the total's range and the ranges of n days, stored as the present ones; nothing else changes
unfoldable pub patched : List ℕ → ℕ → Bool → Ranges → List ℕ
patched b n spent r =
    let marked : List ℕ = sets b mark_place (u16_bytes (cond spent 1 0)) in
    let summed : List ℕ = sets marked present_totals_place (total_bytes r.lowest r.highest) in
    let floored : List ℕ = sets summed present_place (cell_bytes (at r.floors) n) in
    sets floored (present_place + block_length) (cell_bytes (at r.ceilings) n)
