-- All that is promised, in the order of the three demands, by value and then over C. `promised` (proofs/Promised) is one term that proves it.
use Rattle.std.specs.Prelude.{List, ℕ}
use Rattle.schedule_inspection.specs.Inspecting.{FindingOne}
use Rattle.file_printing.specs.Printing.{PrintedLong}
use Rattle.c_layout.specs.Storing.{DecodingInBounds, DecodingEncoding, PatchedEncoding}
use Rattle.promises.specs.Demands.{Demand1, EveryDayCounts, Demand2, Demand3, LooserCuts, NoneAtCut, SessionsInBounds}
use Rattle.promises.specs.Sheets.{Sheets}
use Rattle.promises.specs.Schedules.{Writing, Inspection, PresentSchedules}
use Rattle.promises.specs.RoundTrips.{RoundTrips}
use Rattle.promises.specs.Printing.{RangesPrinted}
use Rattle.promises.specs.Starred.{Starred, StarredSheets}
use Rattle.promises.specs.InBytes.{SessionsInBytes}
use Rattle.promises.specs.DemandsInBytes.{DemandsInBytes}
use Rattle.promises.specs.SheetsInBytes.{SheetsInBytes}
use Rattle.promises.specs.SchedulesInBytes.{WritingInBytes, InspectionInBytes}
use Rattle.promises.specs.FilesInBytes.{FilesInBytes}

pub record Promises : Type 0 where
  -- demand 1: that each call gives the result or the first refusal that applies is the contract of its function. Beyond that: what a refused cut leaves and an
  -- accepted one answers; a looser cut changes nothing; what each answer of an inspection says, and that no two say the same; every session can be called on
  pub cuts : Demand1
  pub looser-cuts : LooserCuts
  pub inspection : Inspection
  pub findings : FindingOne
  pub sessions : SessionsInBounds
  -- demand 2: ranges are exact, 8 is said exactly where there is no schedule, each value of a range has a schedule that is written, files are read again as
  -- they were written, and what is printed for a file is exact; document 01's cases are those with first counted day 0, and its profiles worked by hand
  pub opening : Demand2
  pub none_at_cut : NoneAtCut
  pub writing : Writing
  pub present_schedules : PresentSchedules
  pub files : RoundTrips
  pub printed : (b : List ℕ) → RangesPrinted b
  pub printed-long : PrintedLong
  pub every-day : EveryDayCounts
  pub starred : Starred
  -- demand 3: whole lists of cuts; request Three: a sheet is the single calls made in its order, with one list of the days that differ between the start and the end,
  -- and a refused one makes no cut
  pub lists : Demand3
  pub sheets : Sheets
  pub starred-sheets : StarredSheets
  -- over C: the bytes that opening and cuts leave are those of the sessions by value, and the demands as a caller in C sees them
  pub sessions_in_bytes : SessionsInBytes
  pub demands_in_bytes : DemandsInBytes
  pub sheets_in_bytes : SheetsInBytes
  pub writing_in_bytes : WritingInBytes
  pub inspection_in_bytes : InspectionInBytes
  pub files_in_bytes : FilesInBytes
  -- over C: whatever the bytes, they hold a session that can be called on; what was encoded is decoded; and the patch that a cut makes of bytes, on the encoding of a
  -- session, is the encoding of the session with those ranges
  pub decoding : DecodingInBounds
  pub decoding-encoding : DecodingEncoding
  pub patched-encoding : PatchedEncoding
