-- Document 01: what the file's writer gives, and its output.
use Rattle.std.specs.Prelude.{cond, List, ℕ, eqb, length, Result, Ok, Err}
use Rattle.theory_lists.specs.Front.{in_front}
use Rattle.refusals.specs.declared.Refusal.{Refusal}
use Rattle.refusals.specs.Number.{refusal_number}
use Rattle.session.specs.Profile.{Profile}
use Rattle.session_cuts.specs.declared.Cut.{Cut}
use Rattle.file_format.specs.Format.{file_length, file}
use Rattle.file_format.specs.Writing.{writing_refusal}

-- what writing gives: the refusal's number, 0 for none, and how many bytes were written
pub record WriteAnswer : Type 0 where
  pub refusal : ℕ
  pub length : ℕ

abbrev pub write_as : Result ℕ Refusal → WriteAnswer
write_as (Ok written) = record { refusal = 0; length = written }
write_as (Err refusal) = record { refusal = refusal_number refusal; length = 0 }

-- the file's length, or 0 beside a refusal's number, with an output of that length
unfoldable pub write_answer : Profile → List Cut → ℕ → WriteAnswer
write_answer p cs room =
    cond (eqb (writing_refusal p cs room) 0) (record { refusal = 0; length = file_length p.days (length cs) }) (record { refusal = writing_refusal p cs room; length = 0 })

-- the output afterwards: the file at its front, or as it was beside a refusal
unfoldable pub output : Profile → List Cut → List ℕ → List ℕ
output p cs l = cond (eqb (writing_refusal p cs (length l)) 0) (in_front (file p cs) l) l
