-- Document 01's reader of a file, over byte lists: what it gives, and the lent list of cuts. A list of cuts has 8 bytes for each cut, as in the file.
use Rattle.std.specs.Prelude.{Bool, cond, ◌||◌, List, ℕ, ◌-◌, ◌*◌, ◌/◌, eqb, ltb, drop, Result, Ok, Err}
use Rattle.theory_lists.specs.Front.{in_front}
use Rattle.refusals.specs.declared.Refusal.{Refusal}
use Rattle.refusals.specs.Number.{refusal_number}
use Rattle.session.specs.Opening.{no_numbers}
use Rattle.session.specs.declared.Numbers.{Numbers}
use Rattle.file_format.specs.Format.{cut_length, day_offset, day_count, cut_count, numbers_in}
use Rattle.file_format.specs.Reading.{early_reading}
use Rattle.c_files.specs.declared.Contents as Code

-- 2: a lent list is too short for what it would hold, each given by its count of bytes; an odd last byte counts for nothing
abbrev pub no_room_over : ℕ → ℕ → ℕ → ℕ → ℕ → ℕ → Bool
no_room_over n m floors ceilings rises cuts = ltb (floors / 2) n || ltb (ceilings / 2) n || ltb (rises / 2) (n - 1) || ltb cuts (m * cut_length)

-- the first refusal of reading that applies, or 0
unfoldable pub reading_refusal_over : List ℕ → ℕ → ℕ → ℕ → ℕ → ℕ
reading_refusal_over b floors ceilings rises cuts =
    cond (eqb (early_reading b) 0) (cond (no_room_over (day_count b) (cut_count b) floors ceilings rises cuts) 2 0) (early_reading b)

-- what reading gives beside the lists: the refusal's number, 0 for none; the profile's numbers, and how many cuts there are
pub record Contents : Type 0 where
  pub refusal : ℕ
  pub numbers : Numbers
  pub cuts : ℕ

-- beside a refusal's number: no day, no cut, and 0 for the first counted day and both of the total's bounds
abbrev pub refused_contents : ℕ → Contents
refused_contents number = record { refusal = number; numbers = no_numbers; cuts = 0 }

abbrev pub contents_as : Result Code.Contents Refusal → Contents
contents_as (Ok found) = record { refusal = 0; numbers = found.numbers; cuts = found.cuts }
contents_as (Err refusal) = refused_contents (refusal_number refusal)

abbrev pub contents_of : List ℕ → Contents
contents_of b = record { refusal = 0; numbers = numbers_in b; cuts = cut_count b }

-- what reading gives beside the lists
unfoldable pub read_into : List ℕ → ℕ → ℕ → ℕ → ℕ → Contents
read_into b floors ceilings rises cuts =
    cond (eqb (reading_refusal_over b floors ceilings rises cuts) 0) (contents_of b) (refused_contents (reading_refusal_over b floors ceilings rises cuts))

-- the lent list of cuts afterwards: as it was beside a refusal, else with the file's cuts at its front, as they stand in the file
unfoldable pub cuts_lent : ℕ → List ℕ → List ℕ → List ℕ
cuts_lent refusal b l = cond (eqb refusal 0) (in_front (drop (day_offset (day_count b)) b) l) l
