-- Ranges that lie within those before: the days that differ are those that lost something, and none lost more than there are levels. And days that are listed as
-- bytes, read back.
use Prim.Native.Nat.{ℕ, ◌+◌, ◌-◌, ◌*◌, ◌≤◌, ◌<◌}
use mathlib.Core.Path.{◌≡◌, refl, sym, ap, ◌∙◌}
use mathlib.Core.Logic.{◌⊎◌, inl, inr}
use mathlib.Core.Bool.{Bool, true, false, not, ◌||◌}
use mathlib.Core.List.{List}
use native.Mathlib.Omega.{arith}
use native.Mathlib.Decide.{dec_lt}
use lib.Dec.{eqb, ltb}
use lib.ListN.{length}
use lib.Seq.{ext_get_or}
use borrow.Author.Tests.{eq-eqb, eqb-true, eqb-false, lt-ltb, le-ltb}
use Rattle.limits.specs.Limits.{highest_level}
use Rattle.theory_lists.specs.Sum.{at}
use Rattle.theory_lists.specs.Front.{in_front, front_at, front-past, front_length}
use Rattle.theory_lists.specs.Part.{part_row, part_front}
use Rattle.theory_lists.specs.Written.{written, length-written, written_below, written-past}
use Rattle.base_little_endian.specs.Fields.{u16_at, u16_bytes}
use Rattle.base_little_endian.proofs.Laws.{u16-length, u16-read}
use Rattle.session_order.specs.Order.{days_where, settled_order, settled_losers, day_cells, Losses}
use Rattle.session_order.proofs.Days.{days-same}
use Rattle.session_order.proofs.Losers.{settled_few, losers-same}
use Rattle.session_changed.specs.Changes.{differs, lost, Narrowed, NarrowedOrSame}

-- what one range lost, from its widths before and after
pub widths_lost : (f c f' c' : ℕ) {w w' r : ℕ} → w ≡ c - f → w' ≡ c' - f' → r ≡ w - w' → r ≡ (c - f) - (c' - f')
widths_lost f c f' c' p q e = rw (← p, ← q) e

-- a range within another is the same where it lost nothing
within-lost : (f c f' c' : ℕ) → f ≤ f' → f' ≤ c' → c' ≤ c → (not (eqb f f') || not (eqb c c')) ≡ ltb 0 ((c - f) - (c' - f'))
within-lost f c f' c' l s u = go (eqb f f') (eqb c c') refl refl
  where
    go : (x y : Bool) → eqb f f' ≡ x → eqb c c' ≡ y → (not x || not y) ≡ ltb 0 ((c - f) - (c' - f'))
    go true true e d = sym (le-ltb 0 ((c - f) - (c' - f')) (omega (arith, eqb-true f f' e, eqb-true c c' d)))
    go true false e d = sym (lt-ltb 0 ((c - f) - (c' - f')) (omega (arith, eqb-true f f' e, eqb-false c c' d)))
    go false y e d = sym (lt-ltb 0 ((c - f) - (c' - f')) (omega (arith, eqb-false f f' e)))

-- and so is one that is the same
range-lost : (f c f' c' : ℕ) → f ≤ f' → (f' ≤ c') ⊎ ((f ≡ f') × (c ≡ c')) → c' ≤ c → (not (eqb f f') || not (eqb c c')) ≡ ltb 0 ((c - f) - (c' - f'))
range-lost f c f' c' l (inl s) u = within-lost f c f' c' l s u
range-lost f c f' c' l (inr e) u = rw (eq-eqb f f' e.0, eq-eqb c c' e.1) (sym (le-ltb 0 ((c - f) - (c' - f')) (omega (arith, e.0, e.1))))

module _ {fs cs fs' cs' : List ℕ} {n : ℕ} (w : NarrowedOrSame fs cs fs' cs' n) where
  pub narrowed-losers : settled_order (lost fs cs fs' cs') (days_where (differs fs cs fs' cs') n) ≡ settled_losers (lost fs cs fs' cs') n
  narrowed-losers =
      ap (settled_order (lost fs cs fs' cs'))
      (days-same (differs fs cs fs' cs') (λ k. ltb 0 (lost fs cs fs' cs' k)) n
      (λ k h. range-lost (at fs k) (at cs k) (at fs' k) (at cs' k) (w.floor k h) (w.some k h) (w.ceiling k h)))

  -- a range within one that lies within another
  pub narrowed-again : {fs'' cs'' : List ℕ} → NarrowedOrSame fs' cs' fs'' cs'' n → NarrowedOrSame fs cs fs'' cs'' n
  narrowed-again {fs''} {cs''} v =
      record {
        floor = λ k h. omega (arith, w.floor k h, v.floor k h);
        some = λ k h. go k (w.some k h) (v.some k h);
        ceiling = λ k h. omega (arith, w.ceiling k h, v.ceiling k h);
        most = w.most;
      }
    where
      go : (k : ℕ) → (at fs' k ≤ at cs' k) ⊎ ((at fs k ≡ at fs' k) × (at cs k ≡ at cs' k)) → (at fs'' k ≤ at cs'' k) ⊎ ((at fs' k ≡ at fs'' k) × (at cs' k ≡ at cs'' k))
          → (at fs'' k ≤ at cs'' k) ⊎ ((at fs k ≡ at fs'' k) × (at cs k ≡ at cs'' k))
      go k a (inl b) = inl b
      go k (inl a) (inr b) = inl (omega (arith, b.0, b.1))
      go k (inr a) (inr b) = inr (a.0 ∙ b.0, a.1 ∙ b.1)

  narrowed-most : (k : ℕ) → k < n → lost fs cs fs' cs' k ≤ highest_level
  narrowed-most k h = omega (arith, w.most k h)

  -- of losses that are written to a list
  module _ (l : List ℕ) (room : n ≤ length l) where
    loss_at : (k : ℕ) → k < n → at (written (lost fs cs fs' cs') n l) k ≡ lost fs cs fs' cs' k
    loss_at k h = written_below (lost fs cs fs' cs') 0 n l k h room

    pub losses_most : {ls : List ℕ} → ls ≡ written (lost fs cs fs' cs') n l → Losses ls n
    losses_most e k h = rw (e, loss_at k h) (narrowed-most k h)

    losses_settled : settled_losers (at (written (lost fs cs fs' cs') n l)) n ≡ settled_order (lost fs cs fs' cs') (days_where (differs fs cs fs' cs') n)
    losses_settled = losers-same (at (written (lost fs cs fs' cs') n l)) (lost fs cs fs' cs') n loss_at ∙ sym narrowed-losers

-- ranges that lie within those before
pub narrowed_same : {fs cs fs' cs' : List ℕ} {n : ℕ} → Narrowed fs cs fs' cs' n → NarrowedOrSame fs cs fs' cs' n
narrowed_same w = record { floor = w.floor; some = λ k h. inl (w.some k h); ceiling = w.ceiling; most = w.most }

-- ranges that stay
pub narrowed_none : (fs cs : List ℕ) (n : ℕ) → ((k : ℕ) → k < n → at cs k ≤ highest_level) → NarrowedOrSame fs cs fs cs n
narrowed_none fs cs n most = record { floor = λ k h. omega arith; some = λ k h. inr (refl, refl); ceiling = λ k h. omega arith; most = most }

-- ---- days that are listed as bytes, read back

pub cell_read : (ds l : List ℕ) (k : ℕ) → k < length ds → u16_at (in_front (day_cells ds) l) (k * 2) ≡ at ds k
unfolding day_cells
cell_read ds l k h =
    let z : 0 + k * 2 ≡ k * 2 = omega arith in
    u16-read (at ds k) (rw z at (part_row (λ j. u16_bytes (at ds j)) 2 (length ds) (λ j u. u16-length (at ds j)) (part_front (day_cells ds) l) k h))

days-read : (ds l out : List ℕ) → length ds ≤ length out → written (λ k. u16_at (in_front (day_cells ds) l) (k * 2)) (length ds) out ≡ in_front ds out
days-read ds l out room =
    ext_get_or 0 (written cell (length ds) out) (in_front ds out) (length-written cell (length ds) out ∙ sym (front_length ds out room)) (λ k h. go k (dec_lt k (length ds)))
  where
    cell : ℕ → ℕ
    cell k = u16_at (in_front (day_cells ds) l) (k * 2)

    go : (k : ℕ) → Dec (k < length ds) → at (written cell (length ds) out) k ≡ at (in_front ds out) k
    go k (yes h) = written_below cell 0 (length ds) out k h room ∙ cell_read ds l k h ∙ sym (front_at ds out k 0 h)
    go k (no h) = written-past cell 0 (length ds) out k (omega arith) ∙ sym (front-past ds out k 0 (omega arith))

-- ---- what `list_differences` leaves: losses are written over a blank list, the days are listed as bytes, and read from there

pub record Listing (fs cs fs' cs' : List ℕ) (n : ℕ) (blank losses bytes cells : List ℕ) (count : ℕ) (l out : List ℕ) : Type 0 where
  pub narrowed : NarrowedOrSame fs cs fs' cs' n
  pub wide : n ≤ length blank
  pub room : n ≤ length l
  pub lose : losses ≡ written (lost fs cs fs' cs') n blank
  pub counted : count ≡ length (settled_losers (at losses) n)
  pub made : cells ≡ in_front (day_cells (settled_losers (at losses) n)) bytes
  pub read : out ≡ written (λ k. u16_at cells (k * 2)) count l

pub listing : {fs cs fs' cs' : List ℕ} {n : ℕ} {blank losses bytes cells : List ℕ} {count : ℕ} {l out : List ℕ} → Listing fs cs fs' cs' n blank losses bytes cells count l out
    → (count ≡ length (settled_order (lost fs cs fs' cs') (days_where (differs fs cs fs' cs') n)))
    × (out ≡ in_front (settled_order (lost fs cs fs' cs') (days_where (differs fs cs fs' cs') n)) l)
listing {fs} {cs} {fs'} {cs'} {n} {blank} {losses} {bytes} {cells} {count} {l} h =
    let e : settled_losers (at losses) n ≡ settled_order (lost fs cs fs' cs') (days_where (differs fs cs fs' cs') n) = rw h.lose (losses_settled h.narrowed blank h.wide) in
    let few : length (settled_losers (at losses) n) ≤ length l = omega (arith, settled_few (at losses) n, h.room) in
    (h.counted ∙ ap length e, h.read ∙ rw (h.made, h.counted) (days-read (settled_losers (at losses) n) bytes l few) ∙ ap (λ ds. in_front ds l) e)
