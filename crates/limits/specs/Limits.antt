-- Document 01's bounds of an entry, and the numbers that follow from them. A code is how far a number is above its lowest bound: 0 has the offset as its code.
use Rattle.std.specs.Prelude.{ℕ, zero, suc, ◌+◌, ◌-◌, ◌*◌, ℤ, pos, negsuc}

-- ---- entries

abbrev pub most_days : ℕ
most_days = 512

-- in a file
abbrev pub most_cuts : ℕ
most_cuts = 512

abbrev minus : ℕ → ℤ
minus zero = pos zero
minus (suc n) = negsuc n

abbrev pub lowest_point : ℤ
lowest_point = minus 1_000

abbrev pub highest_point : ℤ
highest_point = pos 4_000

abbrev pub lowest_rise : ℤ
lowest_rise = minus 2_000

abbrev pub highest_rise : ℤ
highest_rise = pos 2_000

abbrev pub lowest_total : ℤ
lowest_total = minus 512_000

abbrev pub highest_total : ℤ
highest_total = pos 2_048_000

-- the lowest and highest setpoint that a list can hold: 16 bits
abbrev pub lowest_setpoint : ℤ
lowest_setpoint = minus 32_768

abbrev pub highest_setpoint : ℤ
highest_setpoint = pos 32_767

-- ---- codes

-- a point's code is its level
abbrev pub level_offset : ℕ
level_offset = 1_000

abbrev pub highest_level : ℕ
highest_level = 5_000

abbrev pub rise_offset : ℕ
rise_offset = 2_000

abbrev pub highest_rise_code : ℕ
highest_rise_code = 4_000

abbrev pub total_offset : ℕ
total_offset = 512_000

abbrev pub highest_total_code : ℕ
highest_total_code = 2_560_000

abbrev pub setpoint_offset : ℕ
setpoint_offset = 32_768

-- what a level lacks of its point's code as a setpoint
abbrev pub level_to_setpoint : ℕ
level_to_setpoint = setpoint_offset - level_offset

-- ---- the method

-- past the last day the shift is as large as falls of all days can make it smaller, and rises of all days at most double it
abbrev pub last_shift : ℕ
last_shift = most_days * rise_offset

abbrev pub highest_shift : ℕ
highest_shift = last_shift + last_shift

-- no held total of levels of 16 bits is above this
abbrev pub highest_held : ℕ
highest_held = most_days * 65_536 + total_offset

-- a level past the last day that limits no day before it
abbrev pub free_level : ℕ
free_level = highest_level + rise_offset
