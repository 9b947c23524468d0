-- The demands, as statements.
use Rattle.std.specs.Prelude.{◌≡◌, true, false, ◌↔◌, ◌⊎◌, List, [], ◌∷◌, ◌++◌, ℕ, ◌≤◌, ◌<◌, ℤ, ◌-ℤ◌, length, ◌<ℤ◌, Option}
use Rattle.theory_lists.specs.Sum.{at}
use Rattle.base_codes.specs.Code.{on}
use Rattle.session.specs.Profile.{Profile, Schedule, Spans, sum_of, total}
use Rattle.session.specs.Showing.{SessionInBounds, floor_on, ceiling_on, total_floor, total_ceiling}
use Rattle.session.specs.Opening.{early_opening, opened}
use Rattle.session.specs.declared.Session.{Session}
use Rattle.session_cuts.specs.declared.Cut.{Cut}
use Rattle.session_cutting.specs.Cutting.{spend, early_numbered, after_cut, after_numbered, list_after, AfterCut}
use Rattle.promises.specs.Cuts.{WellFormed, Looser, CutCall, ValidIn, Kept, after}

-- ---- demand 1 at a cut

-- what a cut with answer r leaves: a refusal leaves the lent list l, and the session s too; but 8, which is said exactly where an unspent
-- session becomes spent
pub record Leaves (s : Session) (l : List ℕ) (r : AfterCut) : Type 0 where
  pub list : (r.answer.refusal ≡ 0 → ⊥) → list_after s r l ≡ l
  pub session : (r.answer.refusal ≡ 0 → ⊥) → (r.answer.refusal ≡ 8 → ⊥) → r.session ≡ s
  pub eight : (r.answer.refusal ≡ 8) ↔ (s.spent ≡ false) × (r.session.spent ≡ true)

-- the points between the floor and the ceiling that a session shows for day k, and those that its range lost from session s to session u (request Two)
abbrev pub width_on : Session → ℕ → ℤ
width_on s k = ceiling_on s k -ℤ floor_on s k

abbrev pub lost_on : Session → Session → ℕ → ℤ
lost_on s u k = width_on s k -ℤ width_on u k

-- day j comes before day k: it lost more, or the same and is the lower
abbrev pub Before : Session → Session → ℕ → ℕ → Type 0
Before s u j k = (lost_on s u k <ℤ lost_on s u j) ⊎ ((lost_on s u j ≡ lost_on s u k) × (j < k))

-- what an accepted cut answers: the first places of the list, as many as days changed, hold exactly the days whose shown range is another than
-- before, each one time, and where the session's numbers are in bounds (SessionsInBounds, below) the largest loss first and equal losses by day; the rest of
-- the list is as before, and so is its length
pub record Changes (s : Session) (l : List ℕ) (r : AfterCut) : Type 0 where
  pub listed : (k : ℕ) → ((i : ℕ) × (i < r.answer.changed) × (at (list_after s r l) i ≡ k)) ↔ (k < s.days) × ((floor_on s k ≡ floor_on r.session k) × (ceiling_on s k ≡ ceiling_on r.session k) → ⊥)
  pub once : (i j : ℕ) → i < j → j < r.answer.changed → at (list_after s r l) i ≡ at (list_after s r l) j → ⊥
  pub order : SessionInBounds s → (i j : ℕ) → i < j → j < r.answer.changed → Before s r.session (at (list_after s r l) i) (at (list_after s r l) j)
  pub rest : (i : ℕ) → r.answer.changed ≤ i → at (list_after s r l) i ≡ at l i
  pub long : length (list_after s r l) ≡ length l

-- for whatever session, cut and lent list
pub record Demand1 : Type 0 where
  pub refused : (s : Session) (t : Option Cut) (l : List ℕ) → Leaves s l (after_numbered s t (length l))
  pub accepted : (s : Session) (t : Option Cut) (l : List ℕ) → (after_numbered s t (length l)).answer.refusal ≡ 0 → Changes s l (after_numbered s t (length l))

-- ---- a list for changed days, for a sheet of cuts too

-- the first places of a list, `count` of them, hold exactly the days whose shown range in session u is another than in session s, each one time; `day i` is what
-- place i holds
pub record DaysListed (s u : Session) (count : ℕ) (day : ℕ → ℕ) : Type 0 where
  pub listed : (k : ℕ) → ((i : ℕ) × (i < count) × (day i ≡ k)) ↔ (k < s.days) × ((floor_on s k ≡ floor_on u k) × (ceiling_on s k ≡ ceiling_on u k) → ⊥)
  pub once : (i j : ℕ) → i < j → j < count → day i ≡ day j → ⊥

-- and they stand the largest loss first, equal losses by day
abbrev pub DaysOrdered : Session → Session → ℕ → (ℕ → ℕ) → Type 0
DaysOrdered s u count day = (i j : ℕ) → i < j → j < count → Before s u (day i) (day j)

-- a lent list l is afterwards, past its first `count` elements, as it came, and so is its length
pub record Stays (count : ℕ) (l out : List ℕ) : Type 0 where
  pub rest : (i : ℕ) → count ≤ i → at out i ≡ at l i
  pub long : length out ≡ length l

-- what a list l for changed days is afterwards, from session s to session u: its first places, as many as days changed, hold those days, in their order where the
-- session's numbers are in bounds (SessionsInBounds, below); the rest of it stays
pub record ListedChanges (s u : Session) (count : ℕ) (l out : List ℕ) : Type 0 where
  pub days : DaysListed s u count (at out)
  pub order : SessionInBounds s → DaysOrdered s u count (at out)
  pub past : Stays count l out

-- ---- document 01's cases

-- with first counted day 0 every day counts alike (request One): the total is the sum of all setpoints
abbrev pub EveryDayCounts : Type 0
EveryDayCounts = (p : Profile) → p.first ≡ 0 → (x : List ℤ) → total p.first x ≡ sum_of x

-- ---- demand 2 at opening

-- the ranges that a session shows are exact for the schedules of S: each day's and the total's
pub record Exact (p : Profile) (S : List ℤ → Type 0) (s : Session) : Type 0 where
  pub each : (i : ℕ) → i < p.days → Spans S (λ x. on x i) (floor_on s i) (ceiling_on s i)
  pub sum : Spans S (total p.first) (total_floor s) (total_ceiling s)

-- where opening does not refuse, every range is exact; and 8 is said exactly where no check before it refuses and there is
-- no schedule
pub record Demand2 : Type 0 where
  pub opening : (p : Profile) → (opened p).refusal ≡ 0 → Exact p (Schedule p) (opened p).session
  pub none : (p : Profile) → ((opened p).refusal ≡ 8) ↔ (early_opening p ≡ 0) × ((x : List ℤ) → Schedule p x → ⊥)

-- ---- demand 3

-- the session after a whole list of cuts, refused ones included: it is spent exactly where no schedule keeps every valid cut of the list, and
-- then shows the ranges that it had when opened, and holds nothing else of its cuts; otherwise its ranges are exact for the schedules that keep
-- them all; and another list with the same valid cuts ends in an equal session
pub record AfterList (p : Profile) (hs : List CutCall) : Type 0 where
  pub spent : ((after (opened p).session hs).spent ≡ true) ↔ ((x : List ℤ) → Kept p hs x → ⊥)
  pub as_opened : (after (opened p).session hs).spent ≡ true → after (opened p).session hs ≡ spend (opened p).session
  pub exact : (after (opened p).session hs).spent ≡ false → Exact p (Kept p hs) (after (opened p).session hs)
  pub order-free : (gs : List CutCall) → ((c : Cut) → ValidIn p hs c ↔ ValidIn p gs c) → after (opened p).session hs ≡ after (opened p).session gs

-- for every profile that opens unrefused and every list
abbrev pub Demand3 : Type 0
Demand3 = (p : Profile) → (opened p).refusal ≡ 0 → (hs : List CutCall) → AfterList p hs

-- ---- looser cuts

-- a valid cut that is looser than the present range is accepted, and changes nothing
abbrev pub LooserCuts : Type 0
LooserCuts =
    (p : Profile) → (opened p).refusal ≡ 0 → (hs : List CutCall) (s : Session) → s ≡ after (opened p).session hs → s.spent ≡ false
    → (c : Cut) → WellFormed p c → Looser s c → (room : ℕ) → p.days ≤ room
    → after_cut s c room ≡ record { answer = record { refusal = 0; changed = 0 }; session = s }

-- ---- demand 2 at a cut

-- 8 is said exactly where no check before it refuses and no schedule keeps every valid cut of the list and this one
abbrev pub NoneAtCut : Type 0
NoneAtCut =
    (p : Profile) → (opened p).refusal ≡ 0 → (hs : List CutCall) (s : Session) → s ≡ after (opened p).session hs → (h : CutCall)
    → ((after_numbered s h.cut h.room).answer.refusal ≡ 8) ↔ (early_numbered s h.cut h.room ≡ 0) × ((x : List ℤ) → Kept p (hs ++ h ∷ []) x → ⊥)

-- ---- numbers in bounds

-- every session from opening, refused or not, and any list of cuts has its numbers in bounds, which is all that showing, cutting, writing and
-- inspecting ask of one
abbrev pub SessionsInBounds : Type 0
SessionsInBounds = (p : Profile) (hs : List CutCall) → SessionInBounds (after (opened p).session hs)
