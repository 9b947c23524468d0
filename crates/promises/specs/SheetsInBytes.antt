-- Request Three as a caller in C sees it, as statements about what `cloverdrum_cut_sheet` answers and leaves in the bytes that it is lent.
use Rattle.std.specs.Prelude.{◌≡◌, true, false, ◌↔◌, List, ◌++◌, ℕ, ◌+◌, ◌*◌, ◌≤◌, ◌<◌, length}
use Rattle.limits.specs.Limits.{most_cuts}
use Rattle.theory_lists.specs.ListOf.{list_of}
use Rattle.base_little_endian.specs.Fields.{u16_at}
use Rattle.session.specs.Profile.{Profile}
use Rattle.session.specs.declared.Session.{Session}
use Rattle.session_cutting.specs.Cutting.{CutAnswer}
use Rattle.file_format.specs.Format.{cut_length}
use Rattle.promises.specs.Demands.{Stays}
use Rattle.promises.specs.InBytes.{ByteCutCall, bytes_after, CameFrom}
use Rattle.promises.specs.DemandsInBytes.{ListedBytes}
use Rattle.c_layout.specs.Layout.{decoding}
use Rattle.c_sessions.specs.Sessions.{is_session, cut_answer}
use Rattle.c_sheets.specs.Sheets.{asked_in, asked_at, answer_length, sheet_answer, bytes_after_sheet, answers_after, days_after}

-- the bytes that a sheet is lent: a session's, its cuts, and lists for answers and for changed days
pub record LentSheet : Type 0 where
  pub session : List ℕ
  pub cuts : List ℕ
  pub answers : List ℕ
  pub days : List ℕ

-- the sheet's own refusal with the number of days, and the bytes afterwards (the contract of `cloverdrum_cut_sheet`)
abbrev pub sheet_given : LentSheet → CutAnswer
sheet_given t = sheet_answer t.session t.cuts (length t.answers) (length t.days)

abbrev pub sheet_left : LentSheet → LentSheet
sheet_left t =
    record {
      session = bytes_after_sheet (sheet_given t).refusal t.session t.cuts;
      cuts = t.cuts;
      answers = answers_after (sheet_given t).refusal t.session t.cuts t.answers;
      days = days_after (sheet_given t).refusal t.session t.cuts t.days;
    }

-- how many cuts there are
abbrev pub sheet_count : LentSheet → ℕ
sheet_count t = asked_in (length t.cuts)

-- the session that its bytes hold
abbrev pub session_in : LentSheet → Session
session_in t = decoding t.session

-- ---- a sheet that is refused, whatever the bytes

-- 1 for more than 512 cuts, then 14 for a list of answers shorter than the sheet; a sheet is taken where the session's bytes and the cuts' have their lengths too, and
-- the list of changed days is not shorter than n; else it is refused with 2
pub record SheetRefusedOver (t : LentSheet) (refusal : ℕ) : Type 0 where
  pub one : (refusal ≡ 1) ↔ (is_session t.session ≡ true) × (most_cuts < sheet_count t)
  pub fourteen : (refusal ≡ 14) ↔ (is_session t.session ≡ true) × (sheet_count t ≤ most_cuts) × (length t.answers < sheet_count t * answer_length)
  pub none : (refusal ≡ 0) ↔ (is_session t.session ≡ true) × (sheet_count t ≤ most_cuts) × (sheet_count t * answer_length ≤ length t.answers)
      × ((session_in t).days * 2 ≤ length t.days) × (sheet_count t * cut_length ≡ length t.cuts)
  pub two : (refusal ≡ 0 → ⊥) → (refusal ≡ 1 → ⊥) → (refusal ≡ 14 → ⊥) → refusal ≡ 2

-- it makes no cut: no byte changes, and the number of days is 0
pub record NoCutOver (t : LentSheet) : Type 0 where
  pub bytes : sheet_left t ≡ t
  pub changed : (sheet_given t).changed ≡ 0

-- ---- a sheet that is taken

-- the first j cuts as single calls, in their order, each with a list of 2n bytes for changed days
abbrev pub calls_in : LentSheet → ℕ → List ByteCutCall
calls_in t j = list_of (λ k. record { cut = asked_at t.cuts k; bytes = (session_in t).days * 2 }) j

-- an answer that a caller finds: the refusal and the count of changed days, 2 bytes each
abbrev pub answer_at : List ℕ → ℕ → CutAnswer
answer_at l j = record { refusal = u16_at l (j * answer_length); changed = u16_at l (j * answer_length + 2) }

-- the session's bytes are those of single calls, refused ones included, so that all that is said of bytes that came from opening and cuts is said of them; each answer
-- is that of the single call on the bytes that the cuts before it left; the list gives the days that differ between the start and the end, with their number; if the
-- session ends spent it is left as it came, the number 0; and what lies past the answers and past the days stays. Each call has a list of 2n bytes, so that every
-- well-formed cut of the sheet is a valid one
pub record SheetTaken (p : Profile) (hs : List ByteCutCall) (t : LentSheet) : Type 0 where
  pub session : (sheet_left t).session ≡ bytes_after t.session (calls_in t (sheet_count t))
  pub came : CameFrom p (hs ++ calls_in t (sheet_count t)) (sheet_left t).session
  pub roomy : (session_in t).days ≡ p.days
  pub answer : (j : ℕ) → j < sheet_count t → answer_at (sheet_left t).answers j ≡ cut_answer (bytes_after t.session (calls_in t j)) (asked_at t.cuts j) ((session_in t).days * 2)
  pub past : Stays (sheet_count t * answer_length) t.answers (sheet_left t).answers
  pub unspent : (session_in (sheet_left t)).spent ≡ false → ListedBytes (session_in t) (session_in (sheet_left t)) (sheet_given t).changed t.days (sheet_left t).days
  pub spent : (session_in (sheet_left t)).spent ≡ true → ((sheet_given t).changed ≡ 0) × ((sheet_left t).days ≡ t.days)

-- ---- all of it; a sheet that is taken, for bytes that came from opening and cuts

pub record SheetsInBytes : Type 0 where
  pub refusal : (t : LentSheet) → SheetRefusedOver t (sheet_given t).refusal
  pub refused : (t : LentSheet) → ((sheet_given t).refusal ≡ 0 → ⊥) → NoCutOver t
  pub taken : (p : Profile) (hs : List ByteCutCall) (t : LentSheet) → CameFrom p hs t.session → (sheet_given t).refusal ≡ 0 → SheetTaken p hs t
