-- The demands as a caller in C sees them, as statements about what the entries answer and leave in the bytes that they are lent.
use Rattle.std.specs.Prelude.{◌≡◌, true, false, cond, ◌↔◌, List, [], ◌∷◌, ◌++◌, ℕ, ◌*◌, ◌/◌, ◌≤◌, ◌<◌, ℤ, eqb, length, Option, Some}
use Rattle.theory_lists.specs.Sum.{at}
use Rattle.base_codes.specs.Code.{on}
use Rattle.session.specs.Profile.{Profile, Schedule, Spans, total}
use Rattle.session.specs.Showing.{floor_on, ceiling_on, Shown}
use Rattle.session.specs.Opening.{early_opening, opened}
use Rattle.session.specs.declared.Session.{Session}
use Rattle.session_cuts.specs.declared.Cut.{Cut}
use Rattle.session_cutting.specs.Cutting.{spend, early_numbered}
use Rattle.promises.specs.Cuts.{WellFormed, Looser, ValidIn, Kept}
use Rattle.promises.specs.Demands.{Before, DaysListed, DaysOrdered, Stays, Exact}
use Rattle.base_little_endian.specs.Fields.{u16_at}
use Rattle.c_lists.specs.Lists.{point_at, lent_points}
use Rattle.c_lists.specs.Profiles.{ByteProfile, byte_length_refusal, profile_of}
use Rattle.c_layout.specs.Layout.{encoding, decoding}
use Rattle.c_sessions.specs.Sessions.{is_session, open_refusal, bytes_opened, cut_answer, bytes_cut, changed_bytes, shown_over}
use Rattle.promises.specs.InBytes.{ByteCutCall, calls_by_value, CameFrom}

-- what reading gives of a session's bytes with the lists that are lent, and the lists afterwards (the contract of `cloverdrum_read`)
abbrev pub read_ranges : List ℕ → List ℕ → List ℕ → Shown
read_ranges b fs cs = shown_over b (length fs) (length cs)

abbrev pub floors_read : List ℕ → List ℕ → List ℕ → List ℕ
floors_read b fs cs = lent_points (read_ranges b fs cs).refusal (floor_on (decoding b)) (decoding b).days fs

abbrev pub ceilings_read : List ℕ → List ℕ → List ℕ → List ℕ
ceilings_read b fs cs = lent_points (read_ranges b fs cs).refusal (ceiling_on (decoding b)) (decoding b).days cs

-- ---- demand 1, whatever the bytes

-- a refused opening writes none of the session's bytes; a refused cut leaves the list, and the session's bytes too, but for 8; a refused reading leaves both
-- lists
pub record BytesLeft : Type 0 where
  pub opening : (b : List ℕ) (h : ByteProfile) → (open_refusal b h ≡ 0 → ⊥) → bytes_opened b h ≡ b
  pub list : (b : List ℕ) (t : Option Cut) (l : List ℕ) → ((cut_answer b t (length l)).refusal ≡ 0 → ⊥) → changed_bytes b t l ≡ l
  pub session : (b : List ℕ) (t : Option Cut) (l : List ℕ) → ((cut_answer b t (length l)).refusal ≡ 0 → ⊥) → ((cut_answer b t (length l)).refusal ≡ 8 → ⊥)
      → bytes_cut b t (length l) ≡ b
  pub reading : (b fs cs : List ℕ) → ((read_ranges b fs cs).refusal ≡ 0 → ⊥) → (floors_read b fs cs ≡ fs) × (ceilings_read b fs cs ≡ cs)

-- what an accepted cut answers: the first places of the list, as many as days changed, hold exactly the days whose shown range is another than
-- before, each one time, the largest loss first and equal losses by day; the rest of the list's bytes are as before
pub record Changed (b : List ℕ) (t : Option Cut) (l : List ℕ) : Type 0 where
  pub listed : (k : ℕ)
      → ((i : ℕ) × (i < (cut_answer b t (length l)).changed) × (u16_at (changed_bytes b t l) (i * 2) ≡ k))
      ↔ (k < (decoding b).days) × ((floor_on (decoding b) k ≡ floor_on (decoding (bytes_cut b t (length l))) k) × (ceiling_on (decoding b) k ≡ ceiling_on (decoding (bytes_cut b t (length l))) k) → ⊥)
  pub once : (i j : ℕ) → i < j → j < (cut_answer b t (length l)).changed → u16_at (changed_bytes b t l) (i * 2) ≡ u16_at (changed_bytes b t l) (j * 2) → ⊥
  pub order : (i j : ℕ) → i < j → j < (cut_answer b t (length l)).changed
      → Before (decoding b) (decoding (bytes_cut b t (length l))) (u16_at (changed_bytes b t l) (i * 2)) (u16_at (changed_bytes b t l) (j * 2))
  pub rest : (i : ℕ) → (cut_answer b t (length l)).changed * 2 ≤ i → at (changed_bytes b t l) i ≡ at l i
  pub long : length (changed_bytes b t l) ≡ length l

-- what a list l for changed days is afterwards, from session s to session u: its first places, as many as days changed, hold those days, 2 bytes each, the largest
-- loss first and equal losses by day; the rest of its bytes stays
pub record ListedBytes (s u : Session) (count : ℕ) (l out : List ℕ) : Type 0 where
  pub days : DaysListed s u count (λ i. u16_at out (i * 2))
  pub order : DaysOrdered s u count (λ i. u16_at out (i * 2))
  pub past : Stays (count * 2) l out

-- a valid cut that is looser than the present range is accepted, and changes no byte
pub record Unchanged (b : List ℕ) (t : Option Cut) (l : List ℕ) : Type 0 where
  pub answer : cut_answer b t (length l) ≡ record { refusal = 0; changed = 0 }
  pub session : bytes_cut b t (length l) ≡ b
  pub list : changed_bytes b t l ≡ l

-- ---- demands 2 and 3

-- the bytes after a whole list of cuts: they are spent exactly where no schedule keeps every valid cut of the list, and then are those of the opened
-- session, marked spent; otherwise their ranges are exact for the schedules that keep them all; and another list with the same valid cuts ends in
-- equal bytes
pub record AfterBytes (p : Profile) (hs : List ByteCutCall) (b : List ℕ) : Type 0 where
  pub spent : ((decoding b).spent ≡ true) ↔ ((x : List ℤ) → Kept p (calls_by_value hs) x → ⊥)
  pub as_opened : (decoding b).spent ≡ true → b ≡ encoding (spend (opened p).session)
  pub exact : (decoding b).spent ≡ false → Exact p (Kept p (calls_by_value hs)) (decoding b)
  pub order-free : (gs : List ByteCutCall) (c : List ℕ) → CameFrom p gs c → ((e : Cut) → ValidIn p (calls_by_value hs) e ↔ ValidIn p (calls_by_value gs) e) → b ≡ c

-- the ranges that a caller finds in the lists and the lent numbers are exact for the schedules of S
pub record Read (p : Profile) (S : List ℤ → Type 0) (b fs cs : List ℕ) : Type 0 where
  pub each : (i : ℕ) → i < p.days → Spans S (λ x. on x i) (point_at (floors_read b fs cs) i) (point_at (ceilings_read b fs cs) i)
  pub sum : Spans S (total p.first) (read_ranges b fs cs).lowest (read_ranges b fs cs).highest

-- reading is refused exactly where a list is too short; it tells whether the session is spent, then shows the ranges that it had when opened, and
-- otherwise those of the schedules that keep every valid cut; it leaves the lists past their first n
pub record Reading (p : Profile) (hs : List ByteCutCall) (b fs cs : List ℕ) : Type 0 where
  pub taken : ((read_ranges b fs cs).refusal ≡ 0) ↔ (p.days ≤ length fs / 2) × (p.days ≤ length cs / 2)
  pub spent : (read_ranges b fs cs).refusal ≡ 0 → ((read_ranges b fs cs).spent ≡ true) ↔ ((x : List ℤ) → Kept p (calls_by_value hs) x → ⊥)
  pub present : (read_ranges b fs cs).refusal ≡ 0 → (read_ranges b fs cs).spent ≡ false → Read p (Kept p (calls_by_value hs)) b fs cs
  pub opened : (read_ranges b fs cs).refusal ≡ 0 → (read_ranges b fs cs).spent ≡ true → Read p (Schedule p) b fs cs
  pub rest : (i : ℕ) → p.days * 2 ≤ i → (at (floors_read b fs cs) i ≡ at fs i) × (at (ceilings_read b fs cs) i ≡ at cs i)

-- ---- demand 2: 8 is said exactly where no check before it refuses and there is no schedule

-- the first refusal of opening before 8 that applies, or 0
abbrev pub early_opening_over : List ℕ → ByteProfile → ℕ
early_opening_over b h =
    let lengths : ℕ = byte_length_refusal h in
    cond (is_session b) (cond (eqb lengths 0) (early_opening (profile_of h)) lengths) 2

abbrev pub NoneAtOpening : Type 0
NoneAtOpening =
    (b : List ℕ) (h : ByteProfile) → (open_refusal b h ≡ 8) ↔ (early_opening_over b h ≡ 0) × ((x : List ℤ) → Schedule (profile_of h) x → ⊥)

abbrev pub NoneAtCutOver : Profile → List ByteCutCall → List ℕ → ByteCutCall → Type 0
NoneAtCutOver p hs b h =
    ((cut_answer b h.cut h.bytes).refusal ≡ 8) ↔ (early_numbered (decoding b) h.cut (h.bytes / 2) ≡ 0) × ((x : List ℤ) → Kept p (calls_by_value (hs ++ h ∷ [])) x → ⊥)

-- ---- all of it, for every profile, whole list of cuts and bytes that came from them

pub record DemandsInBytes : Type 0 where
  pub refused : BytesLeft
  pub none : NoneAtOpening
  pub after : (p : Profile) (hs : List ByteCutCall) (b : List ℕ) → CameFrom p hs b → AfterBytes p hs b
  pub read : (p : Profile) (hs : List ByteCutCall) (b : List ℕ) → CameFrom p hs b → (fs cs : List ℕ) → Reading p hs b fs cs
  pub none_at_cut : (p : Profile) (hs : List ByteCutCall) (b : List ℕ) → CameFrom p hs b → (h : ByteCutCall) → NoneAtCutOver p hs b h
  pub changed : (p : Profile) (hs : List ByteCutCall) (b : List ℕ) → CameFrom p hs b → (t : Option Cut) (l : List ℕ) → (cut_answer b t (length l)).refusal ≡ 0 → Changed b t l
  pub looser : (p : Profile) (hs : List ByteCutCall) (b : List ℕ) → CameFrom p hs b → (decoding b).spent ≡ false
      → (c : Cut) → WellFormed p c → Looser (decoding b) c → (l : List ℕ) → p.days ≤ length l / 2 → Unchanged b (Some c) l
