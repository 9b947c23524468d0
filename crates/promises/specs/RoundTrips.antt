-- Document 01, as statements about what the reader and the writer do with the lists they are lent: a written file, read again, is the same profile
-- and cuts, and a file that the reader takes, with contents that the writer takes, is written back byte for byte.
use Rattle.std.specs.Prelude.{◌≡◌, List, ℕ, ◌-◌, ◌≤◌, ℤ, length, take}
use Rattle.theory_lists.specs.Front.{in_front}
use Rattle.theory_lists.specs.Lent.{lent_list}
use Rattle.base_little_endian.specs.Fields.{Bytes}
use Rattle.session.specs.Profile.{Profile}
use Rattle.session.specs.Opening.{profile}
use Rattle.session_cuts.specs.declared.Cut.{Cut}
use Rattle.session_cuts.specs.Sheet.{cuts_of}
use Rattle.file_format.specs.Format.{day_count, floor_at, ceiling_at, rise_at}
use Rattle.file_reading.specs.Reading.{ReadAnswer, read_from}
use Rattle.file_writing.specs.Writing.{write_answer, output}

-- lists that are lent to the reader for floors, ceilings and rises
pub record Lists : Type 0 where
  pub floors : List ℤ
  pub ceilings : List ℤ
  pub rises : List ℤ

-- what the reader gives of a file's bytes, and the lists afterwards (the contract of `file_reader::read`)
abbrev pub read : List ℕ → Lists → ReadAnswer
read b l = read_from b (length l.floors) (length l.ceilings) (length l.rises)

abbrev pub filled : List ℕ → Lists → Lists
filled b l =
    record {
      floors = lent_list (read b l).refusal (floor_at b) (day_count b) l.floors;
      ceilings = lent_list (read b l).refusal (ceiling_at b) (day_count b) l.ceilings;
      rises = lent_list (read b l).refusal (rise_at b) (day_count b - 1) l.rises;
    }

-- the profile that a caller finds in them: what lies past the data is no part of it
abbrev pub profile_found : ReadAnswer → Lists → Profile
profile_found r l =
    let n : ℕ = r.numbers.days in
    profile r.numbers (take n l.floors) (take n l.ceilings) (take (n - 1) l.rises)

-- the bytes that the writer has put at the front of its output
abbrev pub file_written : Profile → List Cut → List ℕ → List ℕ
file_written p cs out = take (write_answer p cs (length out)).length (output p cs out)

-- lists that are long enough for a profile
pub record Roomy (p : Profile) (l : Lists) : Type 0 where
  pub floors : p.days ≤ length l.floors
  pub ceilings : p.days ≤ length l.ceilings
  pub rises : p.days - 1 ≤ length l.rises

-- what the writer wrote, the reader reads as the same profile and cuts
pub record ReadAgain (p : Profile) (cs : List Cut) (out : List ℕ) (l : Lists) : Type 0 where
  pub taken : (read (file_written p cs out) l).refusal ≡ 0
  pub profile : profile_found (read (file_written p cs out) l) (filled (file_written p cs out) l) ≡ p
  pub cuts : cuts_of (read (file_written p cs out) l).sheet ≡ cs

-- what the reader took, the writer, where it takes it, writes back byte for byte
pub record WrittenBack (b : List ℕ) (l : Lists) (out : List ℕ) : Type 0 where
  pub same : file_written (profile_found (read b l) (filled b l)) (cuts_of (read b l).sheet) out ≡ b
  pub rest : output (profile_found (read b l) (filled b l)) (cuts_of (read b l).sheet) out ≡ in_front b out

pub record RoundTrips : Type 0 where
  pub again : (p : Profile) (cs : List Cut) (out : List ℕ) (l : Lists) → (write_answer p cs (length out)).refusal ≡ 0 → Roomy p l → ReadAgain p cs out l
  pub back : (b : List ℕ) (l : Lists) (out : List ℕ) → Bytes b → (read b l).refusal ≡ 0
      → (write_answer (profile_found (read b l) (filled b l)) (cuts_of (read b l).sheet) (length out)).refusal ≡ 0 → WrittenBack b l out
