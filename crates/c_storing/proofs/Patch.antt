-- What a cut makes of a session's bytes, store by store.
use Prim.Native.Nat.{ℕ, ◌+◌, ◌-◌, ◌*◌, ◌≤◌, ◌<◌, min}
use mathlib.Core.Path.{◌≡◌, refl, ap, ◌∙◌}
use mathlib.Core.Bool.{Bool, true, cond}
use mathlib.Core.List.{List}
use native.Mathlib.Omega.{arith}
use lib.ListN.{length}
use lib.Seq.{sets}
use Rattle.theory_lists.specs.Sum.{at}
use Rattle.theory_lists.specs.Rows.{rows_same}
use Rattle.theory_lists.specs.Written.{written, written_below}
use Rattle.base_little_endian.specs.Fields.{u16_at, u16_bytes}
use Rattle.base_little_endian.proofs.Laws.{u16-length}
use Rattle.session.specs.declared.Ranges.{Ranges}
use Rattle.session_order.specs.Order.{settled_losers}
use Rattle.session_order.proofs.Losers.{losers-same}
use Rattle.session_changed.specs.Changes.{lost}
use Rattle.c_lists.specs.Lists.{cell_bytes}
use Rattle.c_layout.specs.Layout.{total_bytes, decoding, patched}
use Rattle.c_layout.proofs.Held.{days_few, floor-held, ceiling-held, opened-floor-held, opened-ceiling-held}
use Rattle.c_layout.proofs.Lengths.{totals-length}
use Rattle.c_storing.proofs.Laws.{field_before, field_past}
use Rattle.c_storing.proofs.Days.{loss_of}

cells_same : (f g : ℕ → ℕ) (n : ℕ) → ((k : ℕ) → k < n → f k ≡ g k) → cell_bytes f n ≡ cell_bytes g n
unfolding cell_bytes
cells_same f g n h = rows_same (λ k. u16_bytes (f k)) (λ k. u16_bytes (g k)) n (λ k u. ap u16_bytes (h k u))

-- the mark and the total's range are stored in b
pub record Summed (b : List ℕ) (spent : Bool) (lowest highest : ℕ) (out : List ℕ) : Type 0 where
  pub first : List ℕ
  pub marked : first ≡ sets b 2 (u16_bytes (cond spent 1 0))
  pub summed : out ≡ sets first 12 (total_bytes lowest highest)

-- and then the cells of n days
pub record Celled (b : List ℕ) (n : ℕ) (spent : Bool) (lowest highest : ℕ) (f g : ℕ → ℕ) (out : List ℕ) : Type 0 where
  pub second : List ℕ
  pub third : List ℕ
  pub before : Summed b spent lowest highest second
  pub floors : third ≡ sets second 3092 (cell_bytes f n)
  pub ceilings : out ≡ sets third 4116 (cell_bytes g n)

-- which is the patch, where the cells are those of the ranges
pub celled_patched : {b out : List ℕ} {n : ℕ} {spent : Bool} {f g : ℕ → ℕ} (r : Ranges) → Celled b n spent r.lowest r.highest f g out
    → ((k : ℕ) → k < n → f k ≡ at r.floors k) → ((k : ℕ) → k < n → g k ≡ at r.ceilings k) → out ≡ patched b n spent r
unfolding patched
celled_patched {n = n} {f = f} {g = g} r c low high =
    rw (c.ceilings, c.floors, c.before.summed, c.before.marked, cells_same f (at r.floors) n low, cells_same g (at r.ceilings) n high) refl

-- a field past the present total is as it was
module _ {b out : List ℕ} {spent : Bool} {lowest highest : ℕ} (s : Summed b spent lowest highest out) where
  summed_left : (k : ℕ) → 20 ≤ k → u16_at out k ≡ u16_at b k
  summed_left k h =
      rw (s.summed, s.marked)
      (field_past (total_bytes lowest highest) (sets b 2 (u16_bytes (cond spent 1 0))) 12 k (omega (arith, totals-length lowest highest))
      ∙ field_past (u16_bytes (cond spent 1 0)) b 2 k (omega (arith, u16-length (cond spent 1 0))))

  -- and so the points that each day lost are by the ranges that b has
  module _ (fs cs l : List ℕ) {losses : List ℕ} {n : ℕ} (e : losses ≡ written (loss_of out (at fs) (at cs)) n l) (room : n ≤ length l) where
    abbrev loss : ℕ → ℕ
    loss = lost (decoding b).present.floors (decoding b).present.ceilings fs cs

    written_loss : (k : ℕ) → k < n → at losses k ≡ loss_of out (at fs) (at cs) k
    written_loss k h = rw e (written_below (loss_of out (at fs) (at cs)) 0 n l k h room)

    pub losses_most : (k : ℕ) → k < n → at losses k ≤ 5000
    losses_most k h = omega (arith, written_loss k h)

    pub losers-held : n ≡ (decoding b).days → settled_losers (at losses) n ≡ settled_losers loss n
    losers-held d = losers-same (at losses) loss n same
      where
        same : (k : ℕ) → k < n → at losses k ≡ loss k
        same k h =
            let u : k < (decoding b).days = omega (arith, d) in
            let low = ap (λ x. min x 5000) (summed_left (3092 + k * 2) (omega arith)) ∙ floor-held b k u in
            let high = ap (λ x. min x 5000) (summed_left (4116 + k * 2) (omega arith)) ∙ ceiling-held b k u in
            written_loss k h ∙ (λ i. (high i - low i) - (at cs k - at fs k))

-- ---- spending: the cells as opened are read where nothing was stored

pub record Restored (b : List ℕ) (out : List ℕ) : Type 0 where
  pub second : List ℕ
  pub third : List ℕ
  pub before : Summed b true (decoding b).opened.lowest (decoding b).opened.highest second
  pub floors : third ≡ sets second 3092 (cell_bytes (λ k. min (u16_at second (1044 + k * 2)) 5000) (decoding b).days)
  pub ceilings : out ≡ sets third 4116 (cell_bytes (λ k. min (u16_at third (2068 + k * 2)) 5000) (decoding b).days)

pub restored_patched : {b out : List ℕ} → Restored b out → out ≡ patched b (decoding b).days true (decoding b).opened
restored_patched {b} r =
    celled_patched (decoding b).opened (record { second = r.second; third = r.third; before = r.before; floors = r.floors; ceilings = r.ceilings }) low high
  where
    low : (k : ℕ) → k < (decoding b).days → min (u16_at r.second (1044 + k * 2)) 5000 ≡ at (decoding b).opened.floors k
    low k h = rw (summed_left r.before (1044 + k * 2) (omega arith)) (opened-floor-held b k h)

    high : (k : ℕ) → k < (decoding b).days → min (u16_at r.third (2068 + k * 2)) 5000 ≡ at (decoding b).opened.ceilings k
    high k h =
        let few = days_few b in
        let cells : List ℕ = cell_bytes (λ j. min (u16_at r.second (1044 + j * 2)) 5000) (decoding b).days in
        rw (r.floors, field_before cells r.second 3092 (2068 + k * 2) (omega arith), summed_left r.before (2068 + k * 2) (omega arith))
        (opened-ceiling-held b k h)
