-- All promises are kept: each field of `Promises` by the proof that carries its name.
use mathlib.Core.Path.{refl}
use Rattle.schedule_inspection.proofs.Answers.{finding-one}
use Rattle.file_printing.proofs.Longer.{printed-long}
use Rattle.c_layout.proofs.Inverse.{decoding_in_bounds, decoding-encoding}
use Rattle.c_layout.proofs.Patching.{patched-encoding}
use Rattle.promises.specs.Promises.{Promises}
use Rattle.promises.proofs.Starred.{starred, starred-sheets}
use Rattle.promises.proofs.Demand1.{demand_1}
use Rattle.promises.proofs.Demand2.{demand_2}
use Rattle.promises.proofs.Demand3.{demand_3}
use Rattle.promises.proofs.Sheets.{sheets}
use Rattle.promises.proofs.LooserCuts.{looser-cuts}
use Rattle.promises.proofs.NoneAtCut.{none_at_cut}
use Rattle.promises.proofs.SessionBounds.{sessions_in_bounds}
use Rattle.promises.proofs.Written.{writing}
use Rattle.promises.proofs.Inspected.{inspection}
use Rattle.promises.proofs.Reached.{present_schedules}
use Rattle.promises.proofs.RoundTrip.{round_trips}
use Rattle.promises.proofs.Printed.{ranges-printed}
use Rattle.promises.proofs.Bytes.{sessions_in_bytes}
use Rattle.promises.proofs.Demands.{demands_in_bytes}
use Rattle.promises.proofs.SheetsInBytes.{sheets_in_bytes}
use Rattle.promises.proofs.Schedules.{writing_in_bytes, inspection_in_bytes}
use Rattle.promises.proofs.Files.{files_in_bytes}

pub promised : Promises
promised = record {
  cuts = demand_1;
  looser-cuts = looser-cuts;
  inspection = inspection;
  findings = finding-one;
  sessions = sessions_in_bounds;
  opening = demand_2;
  none_at_cut = none_at_cut;
  writing = writing;
  present_schedules = present_schedules;
  files = round_trips;
  printed = ranges-printed;
  printed-long = printed-long;
  every-day = λ p e x. rw e refl;
  starred = starred;
  lists = demand_3;
  sheets = sheets;
  starred-sheets = starred-sheets;
  sessions_in_bytes = sessions_in_bytes;
  demands_in_bytes = demands_in_bytes;
  sheets_in_bytes = sheets_in_bytes;
  writing_in_bytes = writing_in_bytes;
  inspection_in_bytes = inspection_in_bytes;
  files_in_bytes = files_in_bytes;
  decoding = decoding_in_bounds;
  decoding-encoding = decoding-encoding;
  patched-encoding = patched-encoding;
}
