-- Document 01: a written file, read again, is the same profile and cuts; a file that the reader takes, with contents that the writer takes, is
-- written back byte for byte.
use mathlib.Core.Path.{◌≡◌}
use mathlib.Core.List.{List}
use Prim.Native.Nat.{ℕ}
use Rattle.base_little_endian.specs.Fields.{Bytes}
use Rattle.session.specs.Profile.{Profile}
use Rattle.session_cuts.specs.declared.Cut.{Cut}
use Rattle.file_format.specs.Format.{profile_in, cuts_in, file}
use Rattle.file_format.specs.Reading as Reading
use Rattle.file_format.specs.Writing as Writing
use Rattle.file_format.proofs.Taken.{taken, not-refused}
use Rattle.file_format.proofs.ReadAgain.{passed, read_again, profile-again, cuts-again}
use Rattle.file_format.proofs.WrittenBack as WrittenBack

-- the reader refuses nothing of b before 2, and finds this profile and these cuts in it
pub record Reads (b : List ℕ) (p : Profile) (cs : List Cut) : Type 0 where
  pub taken : Reading.early_reading b ≡ 0
  pub profile : profile_in b ≡ p
  pub cuts : cuts_in b ≡ cs

pub reads_again : (p : Profile) (cs : List Cut) → Writing.early_writing p cs ≡ 0 → Reads (file p cs) p cs
reads_again p cs e =
    let w = passed p cs e in
    record { taken = not-refused (file p cs) (read_again p cs w); profile = profile-again p cs w; cuts = cuts-again p cs w }

-- whatever the values are
pub written_back : (b : List ℕ) → Bytes b → Reading.early_reading b ≡ 0 → file (profile_in b) (cuts_in b) ≡ b
written_back b bytes e = WrittenBack.written_back b bytes (taken b e)
