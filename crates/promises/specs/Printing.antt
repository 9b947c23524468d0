-- What the program `ranges` prints, against the schedules of the file's profile.
use Rattle.std.specs.Prelude.{◌≡◌, List, ℕ, ◌<◌, ℤ, length}
use Rattle.session.specs.Profile.{Schedule}
use Rattle.session_cuts.specs.Sheet.{cut_on}
use Rattle.file_format.specs.Format.{profile_in, cuts_in}
use Rattle.file_format.specs.Reading as Reading
use Rattle.file_format.specs.Writing as Writing
use Rattle.file_printing.specs.Printing.{file_opened}
use Rattle.promises.specs.Cuts.{Keeps}
use Rattle.promises.specs.Demands.{Exact}

-- a schedule of the file's profile that keeps every cut of the file
pub record FileSchedule (b : List ℕ) (x : List ℤ) : Type 0 where
  pub schedule : Schedule (profile_in b) x
  pub keeps : (j : ℕ) → j < length (cuts_in b) → Keeps (profile_in b) (cut_on (cuts_in b) j) x

-- where nothing is refused the ranges printed are exact for these; 8 is printed only where there is none, and, of a file whose values pass every
-- check, wherever there is none
pub record RangesPrinted (b : List ℕ) : Type 0 where
  pub exact : (file_opened b).refusal ≡ 0 → Exact (profile_in b) (FileSchedule b) (file_opened b).session
  pub eight : (file_opened b).refusal ≡ 8 → (x : List ℤ) → FileSchedule b x → ⊥
  pub none : Reading.early_reading b ≡ 0 → Writing.early_writing (profile_in b) (cuts_in b) ≡ 0 → ((x : List ℤ) → FileSchedule b x → ⊥) → (file_opened b).refusal ≡ 8
