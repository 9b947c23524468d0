-- What a cut on a session's bytes gives, by what its tests found.
use Rattle.std.specs.Prelude.{Option}
use mathlib.Core.Path.{◌≡◌, refl, sym, ap, subst, ◌∙◌}
use mathlib.Core.Bool.{Bool, true, false, cond}
use mathlib.Core.List.{List}
use Prim.Native.Nat.{ℕ, ◌/◌}
use native.Mathlib.Omega.{arith}
use lib.Dec.{eqb, ltb}
use lib.ListN.{length}
use borrow.Author.Tests.{eq-eqb, ne_eqb}
use Rattle.limits.specs.Limits.{lowest_point, highest_point, lowest_total, highest_total}
use Rattle.theory_lists.specs.Front.{in_front}
use Rattle.base_codes.specs.Code.{within}
use Rattle.base_codes.specs.declared.CodedNumbers.{CodedNumbers}
use Rattle.theory_method.specs.Filter.{InBounds, Tight, tightened}
use Rattle.theory_method.proofs.Exact.{exact, exact_in_bounds}
use Rattle.tighten_filtering.specs.Boxed.{boxed}
use Rattle.session.specs.Opening.{ranges_of}
use Rattle.session.specs.Showing.{box_of, Fits}
use Rattle.session.specs.declared.Session.{Session}
use Rattle.session_cuts.specs.declared.Cut.{Cut}
use Rattle.session_cuts.specs.declared.Cut.TheVariants.{DayFloor, DayCeiling, TotalFloor, TotalCeiling}
use Rattle.session_order.specs.Order.{settled_losers, day_cells}
use Rattle.session_changed.specs.Changes.{lost}
use Rattle.session_changed.proofs.Laws.{narrowed-losers, narrowed_same}
use Rattle.session_cutting.specs.Cutting.{malformed, clipped, retightened, spend, refusing, changed_days, after_numbered, AfterCut, CutAnswer}
use Rattle.session_cutting.proofs.Laws.{clipped_in_bounds, tightened_narrows}
use Rattle.session_cutting.proofs.Stages.{again-found, again-none}
use Rattle.c_layout.specs.Layout.{session_bytes, decoding, patched}
use Rattle.c_layout.proofs.Inverse.{decoding_in_bounds}
use Rattle.c_sessions.specs.Sessions.{bytes_for, list_for, cut_answer, bytes_cut, changed_bytes}
use Rattle.c_sessions.specs.Stages.{made_of}

-- what is answered, and the bytes and the list afterwards, by what the cut gives
abbrev pub Cuts : List ℕ → AfterCut → List ℕ → CutAnswer → List ℕ → List ℕ → Type 0
Cuts b a l r bytes list = (r ≡ a.answer) × ((bytes ≡ bytes_for b a) × (list ≡ list_for b a l))

pub cuts-same : (b l : List ℕ) {a a' : AfterCut} {r : CutAnswer} {bytes list : List ℕ} → a ≡ a' → Cuts b a l r bytes list → Cuts b a' l r bytes list
cuts-same b l {r = r} {bytes = bytes} {list = list} e c = subst (λ a. Cuts b a l r bytes list) e c

-- ---- the returns of `cut_present`

-- a refusal other than 8 leaves both
pub cuts-refused : (b l : List ℕ) (s : Session) {number : ℕ} {r : CutAnswer} → (number ≡ 0 → ⊥) → (number ≡ 8 → ⊥) → r ≡ record { refusal = number; changed = 0 }
    → Cuts b (refusing number s) l r b l
unfolding bytes_for list_for
cuts-refused b l s {number} x y e = (e, (rw (ne_eqb number 0 x, ne_eqb number 8 y) refl, rw (ne_eqb number 0 x) refl))

-- 8 spends
cuts-spent : (b l : List ℕ) {r : CutAnswer} {bytes : List ℕ} → r ≡ record { refusal = 8; changed = 0 }
    → bytes ≡ patched b (decoding b).days true (decoding b).opened → Cuts b (refusing 8 (spend (decoding b))) l r bytes l
unfolding bytes_for list_for
cuts-spent b l e f = (e, (f, refl))

-- what an accepted cut stored: the ranges t of n days, and the days that lost points
pub record Stored (b l : List ℕ) (n : ℕ) (t : Tight) (count : ℕ) (bytes list : List ℕ) : Type 0 where
  pub days : n ≡ (decoding b).days
  pub unspent : (decoding b).spent ≡ false
  pub counted : count ≡ length (settled_losers (lost (decoding b).present.floors (decoding b).present.ceilings t.floors t.ceilings) n)
  pub listed : list ≡ in_front (day_cells (settled_losers (lost (decoding b).present.floors (decoding b).present.ceilings t.floors t.ceilings) n)) l
  pub stored : bytes ≡ patched b n false (ranges_of t)

module _ (b : List ℕ) (c : Cut) {t : Tight} (e : t ≡ retightened (decoding b) (clipped (decoding b).present c)) where
  pub made_none : t.found ≡ false → (l : List ℕ) {r : CutAnswer} {bytes : List ℕ} → r ≡ record { refusal = 8; changed = 0 }
      → bytes ≡ patched b (decoding b).days true (decoding b).opened → Cuts b (made_of b c) l r bytes l
  unfolding made_of
  made_none none l p q = cuts-same b l (again-none (decoding b) c e none) (cuts-spent b l p q)

  module _ (formed : malformed (decoding b).days c ≡ 0) (some : t.found ≡ true) where
    -- the days that lost points are those that changed
    changes : settled_losers (lost (decoding b).present.floors (decoding b).present.ceilings t.floors t.ceilings) (decoding b).days
        ≡ changed_days (decoding b).days (decoding b).present (ranges_of t)
    changes = sym (narrowed-losers (narrowed_same (tightened_narrows (decoding b) c (decoding_in_bounds b) formed e some)))

    pub made_found : (l : List ℕ) {n count : ℕ} {bytes list : List ℕ} → Stored b l n t count bytes list
        → Cuts b (made_of b c) l (record { refusal = 0; changed = count }) bytes list
    unfolding made_of bytes_for list_for
    made_found l {n} {count} d =
        let counted : count ≡ length (changed_days (decoding b).days (decoding b).present (ranges_of t)) = (rw d.days at d.counted) ∙ ap length changes in
        cuts-same b l (again-found (decoding b) c e some counted)
        (refl, (rw (← d.days, d.unspent) d.stored, (rw d.days at d.listed) ∙ ap (λ ds. in_front (day_cells ds) l) changes))

    pub made-bounds : Fits (decoding b).rises (decoding b).days (decoding b).first (ranges_of t)
    made-bounds =
        let fits = clipped_in_bounds (decoding b).rises (decoding b).days (decoding b).first (decoding b).present c (decoding_in_bounds b).present formed in
        rw e (exact_in_bounds (exact fits (rw e at some)) fits)

-- ---- what was loaded from the bytes

pub record Loaded (b fs cs rs : List ℕ) (m : CodedNumbers) : Type 0 where
  pub floors : fs ≡ (decoding b).present.floors
  pub ceilings : cs ≡ (decoding b).present.ceilings
  pub rises : rs ≡ (decoding b).rises
  pub days : m.days ≡ (decoding b).days
  pub first : m.first ≡ (decoding b).first
  pub lowest : m.lowest ≡ (decoding b).present.lowest
  pub highest : m.highest ≡ (decoding b).present.highest

module _ {b fs cs rs : List ℕ} {m : CodedNumbers} (l : Loaded b fs cs rs m) where
  pub loaded_bounds : InBounds (boxed fs cs rs m)
  loaded_bounds = rw (l.floors, l.ceilings, l.rises, l.days, l.first, l.lowest, l.highest) (decoding_in_bounds b).present

  pub loaded_tight : (c : Cut) {t : Tight} → t ≡ tightened (box_of rs m.days m.first (clipped (record { floors = fs; ceilings = cs; lowest = m.lowest; highest = m.highest }) c))
      → t ≡ retightened (decoding b) (clipped (decoding b).present c)
  loaded_tight c e = rw (l.floors, l.ceilings, l.rises, l.days, l.first, l.lowest, l.highest) at e

-- ---- the returns of `cut_known`

not_eight : (placed in_bounds : Bool) (m k : ℕ) → (m ≡ 8 → ⊥) → (k ≡ 8 → ⊥) → cond placed (cond in_bounds 0 m) k ≡ 8 → ⊥
not_eight true true m k x y e = absurd (omega arith)
not_eight true false m k x y e = x e
not_eight false in_bounds m k x y e = y e

-- no cut is refused with 8 by itself
pub malformed-not-eight : (n : ℕ) (c : Cut) → malformed n c ≡ 8 → ⊥
malformed-not-eight n (DayFloor day value) = not_eight (ltb day n) (within lowest_point highest_point value) 3 7 (λ z. absurd (omega arith)) (λ z. absurd (omega arith))
malformed-not-eight n (DayCeiling day value) = not_eight (ltb day n) (within lowest_point highest_point value) 3 7 (λ z. absurd (omega arith)) (λ z. absurd (omega arith))
malformed-not-eight n (TotalFloor day value) = not_eight (eqb day 0) (within lowest_total highest_total value) 5 12 (λ z. absurd (omega arith)) (λ z. absurd (omega arith))
malformed-not-eight n (TotalCeiling day value) = not_eight (eqb day 0) (within lowest_total highest_total value) 5 12 (λ z. absurd (omega arith)) (λ z. absurd (omega arith))

-- ---- the returns of `cut`

module _ (b : List ℕ) (t : Option Cut) (l : List ℕ) where
  pub cut_unread : (length b ≡ session_bytes → ⊥) → {r : CutAnswer} → r ≡ record { refusal = 2; changed = 0 }
      → (r ≡ cut_answer b t (length l)) × ((b ≡ bytes_cut b t (length l)) × (l ≡ changed_bytes b t l))
  unfolding cut_answer bytes_cut changed_bytes
  cut_unread h e = rw (ne_eqb (length b) session_bytes h) (e, (refl, refl))

  pub cut-read : length b ≡ session_bytes → {r : CutAnswer} {bytes list : List ℕ} → Cuts b (after_numbered (decoding b) t (length l / 2)) l r bytes list
      → (r ≡ cut_answer b t (length l)) × ((bytes ≡ bytes_cut b t (length l)) × (list ≡ changed_bytes b t l))
  unfolding cut_answer bytes_cut changed_bytes
  cut-read h c = rw (eq-eqb (length b) session_bytes h) c
