-- Request Three over byte strings: what a sheet of cuts gives for the session that the bytes hold. A cut has 8 bytes, as in the file. An answer has 4: its cut's
-- refusal and number of changed days, 2 bytes each.
use Rattle.std.specs.Prelude.{cond, List, ◌++◌, ℕ, ◌*◌, ◌/◌, ◌%◌, eqb, length, Option}
use Rattle.theory_lists.specs.Rows.{rows}
use Rattle.theory_lists.specs.Front.{in_front}
use Rattle.base_little_endian.specs.Fields.{u16_bytes}
use Rattle.session.specs.declared.Session.{Session}
use Rattle.session_order.specs.Order.{day_cells}
use Rattle.session_cutting.specs.Cutting.{CutAnswer}
use Rattle.session_sheets.specs.Sheets.{after_cuts, answer_on, sheet_refusal, sheet_days}
use Rattle.file_format.specs.Format.{cut_length, numbered_at}
use Rattle.c_layout.specs.Layout.{decoding, patched}
use Rattle.c_sessions.specs.Sessions.{is_session}
use Rattle.session_cuts.specs.declared.Cut.{Cut}

-- ---- the lists

-- how many cuts a list of that many bytes has, and cut j
abbrev pub asked_in : ℕ → ℕ
asked_in bytes = bytes / cut_length

abbrev pub asked_at : List ℕ → ℕ → Option Cut
asked_at cuts j = numbered_at cuts (j * cut_length)

-- how many bytes an answer takes, and its bytes
abbrev pub answer_length : ℕ
answer_length = 4

unfoldable pub answer_bytes : CutAnswer → List ℕ
answer_bytes a = u16_bytes a.refusal ++ u16_bytes a.changed

-- the answers to the first m cuts
abbrev pub answers_bytes : Session → List ℕ → ℕ → List ℕ
answers_bytes s cuts m = rows (λ j. answer_bytes (answer_on s (asked_at cuts) j)) m

-- the session after all cuts
abbrev pub end_of : List ℕ → List ℕ → Session
end_of b cuts = after_cuts (decoding b) (asked_at cuts) (asked_in (length cuts))

-- ---- what a call gives, with lists of that many bytes for cuts, answers and changed days

-- 2 for a session's bytes of another length; 1, 14, 2; then 2 for a list of cuts of the wrong length; or 0
unfoldable pub sheet_refusal_over : List ℕ → ℕ → ℕ → ℕ → ℕ
sheet_refusal_over b cuts answers changed =
    let early : ℕ = sheet_refusal (decoding b).days (asked_in cuts) (answers / answer_length) (changed / 2) in
    cond (is_session b) (cond (eqb early 0) (cond (eqb (cuts % cut_length) 0) 0 2) early) 2

-- the refusal, and the number of days that differ between the start and the end, 0 beside a refusal
unfoldable pub sheet_answer : List ℕ → List ℕ → ℕ → ℕ → CutAnswer
sheet_answer b cuts answers changed =
    let refusal : ℕ = sheet_refusal_over b (length cuts) answers changed in
    cond (eqb refusal 0) (record { refusal = 0; changed = length (sheet_days (decoding b) (end_of b cuts)) }) (record { refusal = refusal; changed = 0 })

-- the session's bytes once it is e: as they were where it was spent before, else with the mark and the ranges of e as the present ones
unfoldable pub sheet_bytes : List ℕ → Session → List ℕ
sheet_bytes b e = cond (decoding b).spent b (patched b e.days e.spent e.present)

-- the session's bytes and the lent lists afterwards, by the sheet's refusal: as they were beside one; else what all cuts leave, all answers, and the days that differ
unfoldable pub bytes_after_sheet : ℕ → List ℕ → List ℕ → List ℕ
bytes_after_sheet refusal b cuts = cond (eqb refusal 0) (sheet_bytes b (end_of b cuts)) b

unfoldable pub answers_after : ℕ → List ℕ → List ℕ → List ℕ → List ℕ
answers_after refusal b cuts l = cond (eqb refusal 0) (in_front (answers_bytes (decoding b) cuts (asked_in (length cuts))) l) l

unfoldable pub days_after : ℕ → List ℕ → List ℕ → List ℕ → List ℕ
days_after refusal b cuts l = cond (eqb refusal 0) (in_front (day_cells (sheet_days (decoding b) (end_of b cuts))) l) l
