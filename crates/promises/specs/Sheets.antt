-- Request Three: a sheet of cuts in one press, as statements.
use Rattle.std.specs.Prelude.{◌≡◌, true, false, ◌↔◌, List, ◌++◌, ℕ, ◌≤◌, ◌<◌, length, get_or, Option}
use Rattle.limits.specs.Limits.{most_cuts}
use Rattle.theory_lists.specs.ListOf.{list_of}
use Rattle.session.specs.Profile.{Profile}
use Rattle.session.specs.Opening.{opened}
use Rattle.session.specs.declared.Session.{Session}
use Rattle.session_cutting.specs.Cutting.{after_numbered}
use Rattle.session_sheets.specs.Sheets.{AfterSheet, not_answered, asked_on, after_sheet, list_after_sheet}
use Rattle.session_sheets.specs.declared.AskedSheet.{AskedSheet}
use Rattle.promises.specs.Cuts.{CutCall, after}
use Rattle.promises.specs.Demands.{ListedChanges, AfterList}
use Rattle.session_cuts.specs.declared.Cut.{Cut}

-- ---- a sheet that is refused

-- 1 for more than 512 cuts, then 14 for room for fewer answers than cuts, then 2 for a list of changed days shorter than n; a sheet is taken where none applies
pub record SheetRefused (n m answers changed refusal : ℕ) : Type 0 where
  pub one : (refusal ≡ 1) ↔ (most_cuts < m)
  pub fourteen : (refusal ≡ 14) ↔ (m ≤ most_cuts) × (answers < m)
  pub two : (refusal ≡ 2) ↔ (m ≤ most_cuts) × (m ≤ answers) × (changed < n)
  pub none : (refusal ≡ 0) ↔ (m ≤ most_cuts) × (m ≤ answers) × (n ≤ changed)

-- it makes no cut: the session and the lent list l are as they were, there is no answer, and the number of days is 0
pub record NoCut (s : Session) (l : List ℕ) (r : AfterSheet) : Type 0 where
  pub session : r.session ≡ s
  pub list : list_after_sheet s r l ≡ l
  pub answers : r.answers.count ≡ 0
  pub changed : r.changed ≡ 0

-- ---- a sheet that is taken

-- the first j cuts as single calls, in their order, each with a list of n places for changed days
abbrev pub calls_of : (ℕ → Option Cut) → ℕ → ℕ → List CutCall
calls_of cuts n j = list_of (λ k. record { cut = cuts k; room = n }) j

-- the session is that of single calls, refused ones included; and each cut's answer, which holds the cut as it was asked, is that of the single call on the session
-- that the cuts before it left
pub record SingleCalls (s : Session) (t : AskedSheet) (r : AfterSheet) : Type 0 where
  pub session : r.session ≡ after s (calls_of (asked_on t) s.days t.count)
  pub count : r.answers.count ≡ t.count
  pub answer : (j : ℕ) → j < t.count
      → get_or r.answers.entries j not_answered ≡ record { cut = asked_on t j; answer = (after_numbered (after s (calls_of (asked_on t) s.days j)) (asked_on t j) s.days).answer }

-- the list gives the days that differ between the start and the end, in the order of request Two, with their number; if the session ends spent it is left as it came,
-- the number 0
pub record SheetChanges (s : Session) (l : List ℕ) (r : AfterSheet) : Type 0 where
  pub unspent : r.session.spent ≡ false → ListedChanges s r.session r.changed l (list_after_sheet s r l)
  pub spent : r.session.spent ≡ true → (r.changed ≡ 0) × (list_after_sheet s r l ≡ l)

-- ---- demand 3: a sheet in place of its single calls changes nothing

-- after the cuts hs and then a sheet the session is that after the whole list of both, of which demand 3 speaks; each call has a list of n places, so that every
-- well-formed cut of the sheet is a valid one
pub record SheetInList (p : Profile) (hs : List CutCall) (s : Session) (t : AskedSheet) (r : AfterSheet) : Type 0 where
  pub session : r.session ≡ after (opened p).session (hs ++ calls_of (asked_on t) s.days t.count)
  pub list : AfterList p (hs ++ calls_of (asked_on t) s.days t.count)
  pub roomy : s.days ≡ p.days

-- ---- all of it, for whatever session, sheet, room for answers and lent list; the last for a session that came from opening and cuts

pub record Sheets : Type 0 where
  pub refusal : (s : Session) (t : AskedSheet) (room : ℕ) (l : List ℕ) → SheetRefused s.days t.count room (length l) (after_sheet s t room (length l)).refusal
  pub refused : (s : Session) (t : AskedSheet) (room : ℕ) (l : List ℕ) → let r : AfterSheet = after_sheet s t room (length l) in (r.refusal ≡ 0 → ⊥) → NoCut s l r
  pub calls : (s : Session) (t : AskedSheet) (room : ℕ) (l : List ℕ) → let r : AfterSheet = after_sheet s t room (length l) in r.refusal ≡ 0 → SingleCalls s t r
  pub changed : (s : Session) (t : AskedSheet) (room : ℕ) (l : List ℕ) → let r : AfterSheet = after_sheet s t room (length l) in r.refusal ≡ 0 → SheetChanges s l r
  pub lists : (p : Profile) → (opened p).refusal ≡ 0 → (hs : List CutCall) (s : Session) → s ≡ after (opened p).session hs
      → (t : AskedSheet) (room : ℕ) (l : List ℕ) → let r : AfterSheet = after_sheet s t room (length l) in r.refusal ≡ 0 → SheetInList p hs s t r
