-- Document 01: what the file's reader gives.
use Rattle.std.specs.Prelude.{cond, List, ℕ, ◌+◌, ◌*◌, eqb, replicate, Result, Ok, Err}
use Rattle.limits.specs.Limits.{most_cuts}
use Rattle.theory_lists.specs.Written.{written}
use Rattle.refusals.specs.declared.Refusal.{Refusal}
use Rattle.refusals.specs.Number.{refusal_number}
use Rattle.session.specs.Opening.{no_numbers}
use Rattle.session.specs.declared.Numbers.{Numbers}
use Rattle.session_cuts.specs.declared.Sheet.{Sheet}
use Rattle.session_cuts.specs.Sheet.{blank}
use Rattle.file_format.specs.Format.{cut_length, day_offset, day_count, cut_count, numbered_at, known, numbers_in}
use Rattle.file_format.specs.Reading.{reading_refusal}
use Rattle.file_reading.specs.declared.Contents.{Contents}

-- m cuts, the first of which begins at a place
unfoldable pub sheet_from : List ℕ → ℕ → ℕ → Sheet
sheet_from b from m = record { count = m; entries = written (λ j. record { cut = known (numbered_at b (from + j * cut_length)) }) m (replicate most_cuts blank) }

-- what reading gives: the refusal's number, 0 for none; the numbers of a profile, and cuts
pub record ReadAnswer : Type 0 where
  pub refusal : ℕ
  pub numbers : Numbers
  pub sheet : Sheet

-- beside a refusal's number: no day, no cut, and 0 for the first counted day and both of the total's bounds
abbrev pub refused_read : ℕ → ReadAnswer
refused_read number = record { refusal = number; numbers = no_numbers; sheet = record { count = 0; entries = replicate most_cuts blank } }

abbrev pub read_as : Result Contents Refusal → ReadAnswer
read_as (Ok found) = record { refusal = 0; numbers = found.numbers; sheet = found.sheet }
read_as (Err refusal) = refused_read (refusal_number refusal)

-- the numbers of a file's profile, and its cuts
unfoldable pub contents : List ℕ → ReadAnswer
contents b = record { refusal = 0; numbers = numbers_in b; sheet = sheet_from b (day_offset (day_count b)) (cut_count b) }

-- what reading gives beside the lists, with lists of these lengths lent for floors, ceilings and rises
unfoldable pub read_from : List ℕ → ℕ → ℕ → ℕ → ReadAnswer
read_from b floors ceilings rises = cond (eqb (reading_refusal b floors ceilings rises) 0) (contents b) (refused_read (reading_refusal b floors ceilings rises))
