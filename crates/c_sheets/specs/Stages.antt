-- A sheet on a session's bytes by stages, as the code takes them. A reader may pass this page over: the contract of `cut_sheet` does not cite it.
use Rattle.std.specs.Prelude.{◌≡◌, List, ℕ, ◌*◌, ◌≤◌, length}
use Rattle.std.proofs.lemmas.List.Edits.{sets}
use Rattle.limits.specs.Limits.{most_cuts}
use Rattle.session.specs.declared.Session.{Session}
use Rattle.theory_lists.specs.Front.{in_front}
use Rattle.session_order.specs.Order.{day_cells}
use Rattle.session_sheets.specs.Sheets.{after_cuts, sheet_days}
use Rattle.session_steps.specs.Steps.{Holds}
use Rattle.session_steps.specs.declared.Step.{Step}
use Rattle.file_format.specs.Format.{cut_length}
use Rattle.c_layout.specs.Layout.{cell_length, session_bytes, decoding}
use Rattle.c_sheets.specs.Sheets.{asked_at, answer_length, answers_bytes, sheet_bytes}

-- the lists have room for m cuts and their answers
pub record RoomFor (m : ℕ) (cuts answers : List ℕ) : Type 0 where
  pub most : m ≤ most_cuts
  pub asked : m * cut_length ≤ length cuts
  pub answered : m * answer_length ≤ length answers

-- from session s the first m cuts are made: the arrays hold what they leave, and their answers are stored over l
pub record Made (s : Session) (cuts : List ℕ) (m : ℕ) (l : List ℕ) (p : Step) (rises floors ceilings widths answers : List ℕ) : Type 0 where
  pub holds : Holds (after_cuts s (asked_at cuts) m) p rises floors ceilings widths
  pub answers_stored : answers ≡ sets l 0 (answers_bytes s cuts m)

-- no check refuses the sheet: b are a session's bytes, and the lists are long enough
pub record Sheetable (b cuts answers changed : List ℕ) (m : ℕ) : Type 0 where
  pub whole : length b ≡ session_bytes
  pub roomy : RoomFor m cuts answers
  pub listed : (decoding b).days * cell_length ≤ length changed

-- what the sheet then leaves: the number of days that differ, the session's bytes and both lists
pub record MadeOver (b cuts : List ℕ) (m : ℕ) (answers changed : List ℕ) (count : ℕ) (b' answers' changed' : List ℕ) : Type 0 where
  pub counted : count ≡ length (sheet_days (decoding b) (after_cuts (decoding b) (asked_at cuts) m))
  pub bytes : b' ≡ sheet_bytes b (after_cuts (decoding b) (asked_at cuts) m)
  pub answered : answers' ≡ in_front (answers_bytes (decoding b) cuts m) answers
  pub listed : changed' ≡ in_front (day_cells (sheet_days (decoding b) (after_cuts (decoding b) (asked_at cuts) m))) changed
