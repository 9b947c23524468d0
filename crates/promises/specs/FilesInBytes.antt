-- Files as a caller in C writes and reads them, as statements about what the entries give and store in the lists that they are lent: byte for byte, what
-- was written, read again, is the same lists, and a file that the reader takes, with contents that the writer takes, is written back.
use Rattle.std.specs.Prelude.{◌≡◌, List, ℕ, ◌-◌, ◌*◌, ◌≤◌, length, take}
use Rattle.theory_lists.specs.Front.{in_front}
use Rattle.base_little_endian.specs.Fields.{Bytes}
use Rattle.session.specs.Profile.{Profile}
use Rattle.file_format.specs.Format.{day_count, floor_at, ceiling_at, rise_at}
use Rattle.file_writing.specs.Writing as ByValue
use Rattle.file_writing.specs.Writing.{WriteAnswer}
use Rattle.c_lists.specs.Lists.{lent_points}
use Rattle.c_lists.specs.Profiles.{ByteProfile, byte_profile, profile_of}
use Rattle.c_files.specs.Reading.{Contents, read_into, cuts_lent}
use Rattle.c_files.specs.Writing.{cuts_in_bytes, write_over, output_over}

-- a profile and cuts as the writer is handed them, and as a caller finds them after reading; each list is its bytes
pub record ListsInBytes : Type 0 where
  pub profile : ByteProfile
  pub cuts : List ℕ

-- ---- writing

-- what the writer gives, and its output afterwards (the contract of `cloverdrum_write_file`)
abbrev pub write : ListsInBytes → List ℕ → WriteAnswer
write l out = write_over l.profile l.cuts (length out)

abbrev pub output_in_bytes : ListsInBytes → List ℕ → List ℕ
output_in_bytes l out = output_over l.profile l.cuts out

-- the file is as many bytes of the output as the writer says
abbrev pub written_in_bytes : ListsInBytes → List ℕ → List ℕ
written_in_bytes l out = take (write l out).length (output_in_bytes l out)

-- the profile that the lists hold
abbrev pub profile_in_bytes : ListsInBytes → Profile
profile_in_bytes l = profile_of l.profile

-- ---- reading

-- byte lists that are lent to the reader
pub record Lent : Type 0 where
  pub floors : List ℕ
  pub ceilings : List ℕ
  pub rises : List ℕ
  pub cuts : List ℕ

-- what the reader gives of a file, and the lists afterwards (the contract of `cloverdrum_read_file`)
abbrev pub read_over : List ℕ → Lent → Contents
read_over f t = read_into f (length t.floors) (length t.ceilings) (length t.rises) (length t.cuts)

abbrev pub filled_over : List ℕ → Lent → Lent
filled_over f t =
    record {
      floors = lent_points (read_over f t).refusal (floor_at f) (day_count f) t.floors;
      ceilings = lent_points (read_over f t).refusal (ceiling_at f) (day_count f) t.ceilings;
      rises = lent_points (read_over f t).refusal (rise_at f) (day_count f - 1) t.rises;
      cuts = cuts_lent (read_over f t).refusal f t.cuts;
    }

-- the lists that a caller finds in them: what lies past the data is no part of them
abbrev pub found_in : Contents → Lent → ListsInBytes
found_in r t =
    let n : ℕ = r.numbers.days in
    record {
      profile = byte_profile r.numbers (take (n * 2) t.floors) (take (n * 2) t.ceilings) (take ((n - 1) * 2) t.rises);
      cuts = take (r.cuts * 8) t.cuts;
    }

abbrev pub read_lists : List ℕ → Lent → ListsInBytes
read_lists f t = found_in (read_over f t) (filled_over f t)

-- the lent lists are long enough
pub record RoomyInBytes (l : ListsInBytes) (t : Lent) : Type 0 where
  pub floors : length l.profile.floors ≤ length t.floors
  pub ceilings : length l.profile.ceilings ≤ length t.ceilings
  pub rises : length l.profile.rises ≤ length t.rises
  pub cuts : length l.cuts ≤ length t.cuts

-- ---- the round trips

-- the reader takes f, and the same lists are found
pub record ReadAgainInBytes (l : ListsInBytes) (f : List ℕ) (t : Lent) : Type 0 where
  pub taken : (read_over f t).refusal ≡ 0
  pub lists : read_lists f t ≡ l

-- the lists that the reader left are written back as f, and what lies past it in the output stays
pub record WrittenBackInBytes (f out : List ℕ) (t : Lent) : Type 0 where
  pub same : written_in_bytes (read_lists f t) out ≡ f
  pub rest : output_in_bytes (read_lists f t) out ≡ in_front f out

-- a refusal leaves the output, and every lent list
pub record ListsLeft : Type 0 where
  pub writing : (l : ListsInBytes) (out : List ℕ) → ((write l out).refusal ≡ 0 → ⊥) → output_in_bytes l out ≡ out
  pub reading : (f : List ℕ) (t : Lent) → ((read_over f t).refusal ≡ 0 → ⊥) → filled_over f t ≡ t

pub record FilesInBytes : Type 0 where
  pub refused : ListsLeft
  pub again : (l : ListsInBytes) (out : List ℕ) (t : Lent) → Bytes l.profile.floors → Bytes l.profile.ceilings → Bytes l.profile.rises → Bytes l.cuts
      → (write l out).refusal ≡ 0 → RoomyInBytes l t → ReadAgainInBytes l (written_in_bytes l out) t
  pub back : (f out : List ℕ) (t : Lent) → Bytes f → (read_over f t).refusal ≡ 0 → (write (read_lists f t) out).refusal ≡ 0 → WrittenBackInBytes f out t
  -- what is written is what the writer by value writes
  pub by_value : (l : ListsInBytes) (out : List ℕ) → (write l out).refusal ≡ 0
      → (write l out ≡ ByValue.write_answer (profile_in_bytes l) (cuts_in_bytes l.cuts) (length out)) × (output_in_bytes l out ≡ ByValue.output (profile_in_bytes l) (cuts_in_bytes l.cuts) out)
