-- What a list for changed days holds: the days whose range differs between two sessions, the largest loss first. What a range lost in points is what it lost in levels.
use Rattle.std.specs.Prelude.{Option}
use mathlib.Core.Path.{◌≡◌, refl, sym, ◌∙◌, ap}
use mathlib.Core.Logic.{◌↔◌, ◌⊎◌, inl, inr}
use mathlib.Core.Bool.{Bool, true, false, not, ◌||◌, true≢false}
use mathlib.Core.List.{List, Memᴰ}
use Prim.Native.Nat.{ℕ, ◌+◌, ◌-◌, ◌*◌, ◌/◌, ◌≤◌, ◌<◌}
use native.Mathlib.Omega.{arith}
use lib.IntN.{pos, ◌-ℤ◌, +ℤ_invr}
use lib.Dec.{eqb, lt→ltb}
use lib.ListN.{length}
use borrow.Author.Tests.{eqb-true, eq-eqb}
use Rattle.limits.specs.Limits.{lowest_point}
use Rattle.theory_lists.specs.Sum.{at}
use Rattle.base_codes.specs.Code.{code, decoded}
use Rattle.base_codes.proofs.Offset.{less_le}
use Rattle.base_codes.proofs.Laws.{point_less, decoded_less, code_sum, code_difference, code-decoded}
use Rattle.session.specs.Showing.{SessionInBounds, floor_on, ceiling_on}
use Rattle.session.specs.declared.Session.{Session}
use Rattle.session_changed.specs.Changes.{differs, lost}
use Rattle.session_changed.proofs.Laws.{cell_read}
use Rattle.session_order.specs.Order.{days_where, day_cells}
use Rattle.theory_lists.specs.Front.{in_front, front_at, front-past, front_length}
use Rattle.session_order.proofs.Pairs.{at_mem, mem_at, Pairs, pairs_at, at_pairs}
use Rattle.session_order.proofs.Days.{days_where_lem, days_ascend}
use Rattle.session_order.proofs.Listing.{days-length}
use Rattle.session_order.proofs.Settled.{Ahead, settled-mem, settled_pairs, ahead_different}
use Rattle.session_cutting.specs.Cutting.{changed_days, after_numbered, list_after, AfterCut}
use Rattle.session_cutting.proofs.Laws.{changed_few, accepted-list, numbered-accepted, Narrows, numbered_narrows}
use Rattle.promises.specs.Demands.{lost_on, Before, Changes, DaysListed, DaysOrdered, Stays, ListedChanges}
use Rattle.promises.specs.DemandsInBytes.{ListedBytes}
use Rattle.base_little_endian.specs.Fields.{u16_at}
use Rattle.session_cuts.specs.declared.Cut.{Cut}

-- two levels are the same where their points are
same-level : (a b : ℕ) → decoded lowest_point a ≡ decoded lowest_point b → a ≡ b
same-level a b e = sym (code-decoded lowest_point a) ∙ ap (code lowest_point) e ∙ code-decoded lowest_point b

-- the test on codes, said of points
differs-shown : (a b a' b' : ℕ)
    → ((not (eqb a a') || not (eqb b b')) ≡ true) ↔ ((decoded lowest_point a ≡ decoded lowest_point a') × (decoded lowest_point b ≡ decoded lowest_point b') → ⊥)
differs-shown a b a' b' = (to, go (eqb a a') (eqb b b') refl refl)
  where
    to : (not (eqb a a') || not (eqb b b')) ≡ true → (decoded lowest_point a ≡ decoded lowest_point a') × (decoded lowest_point b ≡ decoded lowest_point b') → ⊥
    to t h = true≢false (sym (rw (eq-eqb a a' (same-level a a' h.0), eq-eqb b b' (same-level b b' h.1)) at t))

    go : (x y : Bool) → eqb a a' ≡ x → eqb b b' ≡ y → ((decoded lowest_point a ≡ decoded lowest_point a') × (decoded lowest_point b ≡ decoded lowest_point b') → ⊥)
        → (not x || not y) ≡ true
    go true true e f h = absurd (h (ap (decoded lowest_point) (eqb-true a a' e), ap (decoded lowest_point) (eqb-true b b' f)))
    go true false e f h = refl
    go false y e f h = refl

-- a width in points is that of the levels, and so is what a range lacks of one that is the same, or that it lies within
point_width : (a b : ℕ) → a ≤ b → decoded lowest_point b -ℤ decoded lowest_point a ≡ pos (b - a)
point_width a b h =
    let p = decoded_less lowest_point a 1000 point_less in
    let q = decoded_less lowest_point b 1000 point_less in
    let e : code (decoded lowest_point a) (decoded lowest_point b) ≡ b - a = omega (arith, code_sum (decoded lowest_point a) (decoded lowest_point b) a b 1000 p q h) in
    code_difference (decoded lowest_point a) (decoded lowest_point b) (less_le _ _ a b 1000 p q h) ∙ ap pos e

width-lost : (a b : ℕ) → a ≤ b → pos b -ℤ pos a ≡ pos (b - a)
width-lost a b h =
    let p : a ≡ a + 0 = omega arith in
    let q : b ≡ b + 0 = omega arith in
    let e : code (pos a) (pos b) ≡ b - a = omega (arith, code_sum (pos a) (pos b) a b 0 p q h) in
    code_difference (pos a) (pos b) (less_le (pos a) (pos b) a b 0 p q h) ∙ ap pos e

points_lost : (f c f' c' : ℕ) → f ≤ f' → (f' ≤ c') ⊎ ((f ≡ f') × (c ≡ c')) → c' ≤ c
    → (decoded lowest_point c -ℤ decoded lowest_point f) -ℤ (decoded lowest_point c' -ℤ decoded lowest_point f') ≡ pos ((c - f) - (c' - f'))
points_lost f c f' c' l (inl s) u = rw (point_width f c (omega arith), point_width f' c' s) (width-lost (c' - f') (c - f) (omega arith))
points_lost f c f' c' l (inr e) u =
    let none : (c - f) - (c - f) ≡ 0 = omega arith in
    rw (← e.0, ← e.1, none) (+ℤ_invr (decoded lowest_point c -ℤ decoded lowest_point f))

-- ---- the days whose range differs from session s to session u

module _ (s u : Session) where
  abbrev test : ℕ → Bool
  test = differs s.present.floors s.present.ceilings u.present.floors u.present.ceilings

  abbrev loss : ℕ → ℕ
  loss = lost s.present.floors s.present.ceilings u.present.floors u.present.ceilings

  abbrev days : List ℕ
  days = changed_days s.days s.present u.present

  days-mem : (k : ℕ) → Memᴰ k days ↔ (k < s.days) × (test k ≡ true)
  days-mem k =
      let m = settled-mem loss (days_where test s.days) k in
      let d = days_where_lem test s.days k in
      (λ h. d.0 (m.0 h), λ h. m.1 (d.1 h))

  days-ahead : Pairs (Ahead loss) days
  days-ahead =
      settled_pairs loss (days_where test s.days)
      (at_pairs (λ x y. x ≡ y → ⊥) (days_where test s.days) (λ i j h m e. omega (arith, days_ascend test s.days i j h m)))

  shown : (k : ℕ) → (test k ≡ true) ↔ ((floor_on s k ≡ floor_on u k) × (ceiling_on s k ≡ ceiling_on u k) → ⊥)
  shown k = differs-shown (at s.present.floors k) (at s.present.ceilings k) (at u.present.floors k) (at u.present.ceilings k)

  -- in points
  loss_shown : Narrows s u → (k : ℕ) → k < s.days → lost_on s u k ≡ pos (loss k)
  loss_shown w k h =
      points_lost (at s.present.floors k) (at s.present.ceilings k) (at u.present.floors k) (at u.present.ceilings k)
      (w.floor k h) (w.some k h) (w.ceiling k h)

  before : Narrows s u → (j k : ℕ) → j < s.days → k < s.days → Ahead loss j k → Before s u j k
  before w j k h m (inl a) = inl (rw (loss_shown w j h, loss_shown w k m) (record { lt = lt→ltb (loss k) (loss j) a }))
  before w j k h m (inr a) = inr (loss_shown w j h ∙ ap pos a.0 ∙ sym (loss_shown w k m), a.1)

  -- a list whose places, as many as there are such days, hold them
  module _ {count : ℕ} (counted : count ≡ length days) (day : ℕ → ℕ) (held : (i : ℕ) → i < count → day i ≡ at days i) where
    ahead : (i j : ℕ) → i < j → j < count → Ahead loss (day i) (day j)
    ahead i j h m = rw (held i (omega arith), held j m) (pairs_at (Ahead loss) days days-ahead i j h (omega arith))

    day-listed : (k : ℕ) (i : ℕ) → i < count → day i ≡ k → (k < s.days) × (test k ≡ true)
    day-listed k i h e = (days-mem k).0 (rw (sym (held i h) ∙ e) at (at_mem days i (omega arith)))

    pub days-listed : DaysListed s u count day
    days-listed = record {
      listed = λ k. (
        λ w. let d = day-listed k w.0 w.1 w.2 in (d.0, (shown k).0 d.1),
        λ w. let d = mem_at days k ((days-mem k).1 (w.0, (shown k).1 w.1)) in
            let h : d.0 < count = omega (arith, d.1) in
            (d.0, h, held d.0 h ∙ d.2),
      );
      once = λ i j h m. ahead_different loss _ _ (ahead i j h m);
    }

    pub days_ordered : Narrows s u → DaysOrdered s u count day
    days_ordered w i j h m = before w _ _ (day-listed _ i (omega arith) refl).0 (day-listed _ j m refl).0 (ahead i j h m)

-- ---- a lent list with others at its front

pub front_stays : (xs l : List ℕ) {count : ℕ} → count ≡ length xs → length xs ≤ length l → Stays count l (in_front xs l)
front_stays xs l e h = record { rest = λ i k. front-past xs l i 0 (omega arith); long = front_length xs l h }

pub changes : (s u : Session) {count : ℕ} {l out : List ℕ} → count ≡ length (changed_days s.days s.present u.present) → out ≡ in_front (changed_days s.days s.present u.present) l
    → s.days ≤ length l → (SessionInBounds s → Narrows s u) → ListedChanges s u count l out
changes s u {count} {l} counted front room narrows =
    let held : (i : ℕ) → i < count → at (in_front (days s u) l) i ≡ at (days s u) i = λ i h. front_at (days s u) l i 0 (omega arith) in
    rw front (record {
      days = days-listed s u counted _ held;
      order = λ b. days_ordered s u counted _ held (narrows b);
      past = front_stays (days s u) l counted (omega (arith, changed_few s.days s.present u.present));
    })

-- an accepted cut's
pub cut-changes : (s : Session) (t : Option Cut) (l : List ℕ) → (after_numbered s t (length l)).answer.refusal ≡ 0 → Changes s l (after_numbered s t (length l))
cut-changes s t l z =
    let r : AfterCut = after_numbered s t (length l) in
    let a = numbered-accepted s t (length l) z in
    let d = changes s r.session a.counted (accepted-list s r l z) a.roomy (λ b. numbered_narrows s t (length l) b z) in
    record { listed = d.days.listed; once = d.days.once; order = d.order; rest = d.past.rest; long = d.past.long }

-- the same where the list holds the days as bytes
pub bytes-changed : (s u : Session) {count : ℕ} {l out : List ℕ} → count ≡ length (changed_days s.days s.present u.present)
    → out ≡ in_front (day_cells (changed_days s.days s.present u.present)) l → s.days ≤ length l / 2 → Narrows s u → ListedBytes s u count l out
bytes-changed s u {count} {l} counted front room narrows =
    let held : (i : ℕ) → i < count → u16_at (in_front (day_cells (days s u)) l) (i * 2) ≡ at (days s u) i = λ i h. cell_read (days s u) l i (omega arith) in
    let wide = days-length (days s u) in
    rw front (record {
      days = days-listed s u counted _ held;
      order = days_ordered s u counted _ held narrows;
      past = front_stays (day_cells (days s u)) l (omega arith) (omega (arith, changed_few s.days s.present u.present));
    })
