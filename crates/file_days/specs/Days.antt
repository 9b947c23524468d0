-- The days of a file, one after another. A reader of the definitions may pass this page over: `read`'s own contract does not cite it.
use Rattle.std.specs.Prelude.{ℕ, ◌+◌, List}
use Rattle.file_format.specs.Format.{day_length}
use Rattle.base_little_endian.specs.Fields.{i16_at}
use Rattle.file_days.specs.declared.Day.{Day}
use Rattle.file_days.specs.declared.DayReader.{DayReader}

-- the day that begins at a place
abbrev pub day_at : List ℕ → ℕ → Day
day_at b i = record { floor = i16_at b i; ceiling = i16_at b (i + 2); rise = i16_at b (i + 4) }

-- a reader, moved on past the day at its place
abbrev pub past : DayReader → DayReader
past r = record { bytes = r.bytes; at = r.at + day_length }
