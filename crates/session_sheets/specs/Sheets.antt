-- Request Three: a sheet of cuts in one press. The session and the answers are those of single calls made in that order, refused ones included.
use Rattle.std.specs.Prelude.{cond, List, [], map, ℕ, zero, suc, eqb, ltb, length, get_or, replicate, None, Option}
use Rattle.limits.specs.Limits.{most_cuts}
use Rattle.theory_lists.specs.Written.{written}
use Rattle.theory_lists.specs.Front.{in_front}
use Rattle.session.specs.declared.Session.{Session}
use Rattle.session_cutting.specs.Cutting.{changed_days, after_numbered, CutAnswer, answer_as}
use Rattle.session_sheets.specs.declared.Asked.{Asked}
use Rattle.session_sheets.specs.declared.AskedSheet.{AskedSheet}
use Rattle.session_sheets.specs.declared.Answered as CodeAnswered
use Rattle.session_sheets.specs.declared.Answers as CodeAnswers
use Rattle.session_sheets.specs.declared.AfterSheet as CodeAfterSheet
use Rattle.session_cuts.specs.declared.Cut.{Cut}

-- ---- the cuts, each a single call with a list of n places for changed days

-- the session after the first j cuts
unfoldable pub after_cuts : Session → (ℕ → Option Cut) → ℕ → Session
after_cuts s f zero = s
after_cuts s f (suc j) = (after_numbered (after_cuts s f j) (f j) s.days).session

-- what cut j is answered, from the session that the one before left
abbrev pub answer_on : Session → (ℕ → Option Cut) → ℕ → CutAnswer
answer_on s f j = (after_numbered (after_cuts s f j) (f j) s.days).answer

-- ---- the sheet

-- the refusals before the first cut: 1 for more than 512 cuts, 14 for a list of answers shorter than the sheet, 2 for a list of changed days shorter than n; or 0
unfoldable pub sheet_refusal : ℕ → ℕ → ℕ → ℕ → ℕ
sheet_refusal n m answers changed = cond (ltb most_cuts m) 1 (cond (ltb answers m) 14 (cond (ltb changed n) 2 0))

-- the days that differ between the start and the end, in the order of request Two; none if the session ends spent
abbrev pub sheet_days : Session → Session → List ℕ
sheet_days s e = cond e.spent [] (changed_days s.days s.present e.present)

-- ---- a sheet by value

-- a cut as it was asked for, with its answer
pub record Answered : Type 0 where
  pub cut : Option Cut
  pub answer : CutAnswer

abbrev pub answered_as : CodeAnswered.Answered → Answered
answered_as a = record { cut = a.cut; answer = answer_as a.answer }

-- the first `count` entries answer a sheet's cuts
pub record Answers : Type 0 where
  pub count : ℕ
  pub entries : List Answered

abbrev pub answers_as : CodeAnswers.Answers → Answers
answers_as a = record { count = a.count; entries = map answered_as a.entries }

-- the sheet's own refusal, 0 for none; how many days differ between the start and the end; each cut's answer; the session
pub record AfterSheet : Type 0 where
  pub refusal : ℕ
  pub changed : ℕ
  pub answers : Answers
  pub session : Session

abbrev pub sheet_as : CodeAfterSheet.AfterSheet → AfterSheet
sheet_as a = record { refusal = (answer_as a.answer).refusal; changed = (answer_as a.answer).changed; answers = answers_as a.answers; session = a.session }

-- what stands past a sheet's cuts, and past its answers
abbrev pub not_asked : Asked
not_asked = record { cut = None }

abbrev pub not_answered : Answered
not_answered = record { cut = None; answer = record { refusal = 0; changed = 0 } }

abbrev pub asked_on : AskedSheet → ℕ → Option Cut
asked_on t j = (get_or t.entries j not_asked).cut

-- the answers of the first m cuts, each beside its cut as it was asked
unfoldable pub answers_to : Session → (ℕ → Option Cut) → ℕ → Answers
answers_to s f m = record { count = m; entries = written (λ j. record { cut = f j; answer = answer_on s f j }) m (replicate most_cuts not_answered) }

-- beside a refusal's number: no answer, no changed day, and the session as it was, since a refused sheet makes no cut
abbrev pub refused_sheet : ℕ → Session → AfterSheet
refused_sheet number s = record { refusal = number; changed = 0; answers = record { count = 0; entries = replicate most_cuts not_answered }; session = s }

abbrev pub taken_sheet : Session → (ℕ → Option Cut) → ℕ → AfterSheet
taken_sheet s f m =
    let e : Session = after_cuts s f m in
    record { refusal = 0; changed = length (sheet_days s e); answers = answers_to s f m; session = e }

-- what a sheet gives, where there is room for that many answers and changed days
unfoldable pub after_sheet : Session → AskedSheet → ℕ → ℕ → AfterSheet
after_sheet s t answers changed =
    let refusal : ℕ = sheet_refusal s.days t.count answers changed in
    cond (eqb refusal 0) (taken_sheet s (asked_on t) t.count) (refused_sheet refusal s)

-- the lent list afterwards: as it was beside a refusal, or if the session ends spent
unfoldable pub list_after_sheet : Session → AfterSheet → List ℕ → List ℕ
list_after_sheet s r l = cond (eqb r.refusal 0) (in_front (sheet_days s r.session) l) l
