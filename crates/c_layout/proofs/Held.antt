-- The parts of the session that bytes hold, each by its own bytes.
use mathlib.Core.Path.{◌≡◌, refl, sym}
use mathlib.Core.Bool.{not}
use mathlib.Core.List.{List}
use Prim.Native.Nat.{ℕ, ◌+◌, ◌-◌, ◌*◌, ◌≤◌, ◌<◌, min}
use native.Mathlib.Omega.{arith}
use lib.Dec.{eqb}
use Rattle.limits.specs.Limits.{highest_level, highest_rise_code}
use Rattle.theory_lists.specs.Sum.{at}
use Rattle.theory_lists.specs.Written.{written}
use Rattle.base_little_endian.specs.Fields.{u16_at}
use Rattle.theory_method.specs.Filter.{zeros}
use Rattle.c_layout.specs.Layout.{
  cell_length,
  total_length,
  block_length,
  mark_place,
  opened_totals_place,
  present_totals_place,
  rises_place,
  opened_place,
  present_place,
  first_place,
  cells_at,
  total_at,
  ranges_at,
  days_at,
  decoding,
}
use Rattle.c_layout.proofs.Inverse.{cell}

module _ (b : List ℕ) where
  pub days-held : days_at b ≡ (decoding b).days
  unfolding decoding
  days-held = refl

  pub days_few : (decoding b).days ≤ 512
  days_few = omega (arith, days-held)

  pub days-some : 0 < (decoding b).days
  days-some = omega (arith, days-held)

  pub first-held : min (u16_at b first_place) ((decoding b).days - 1) ≡ (decoding b).first
  unfolding decoding
  first-held = refl

  pub mark-held : not (eqb (u16_at b mark_place) 0) ≡ (decoding b).spent
  unfolding decoding
  mark-held = refl

  pub rises-held : cells_at b (decoding b).days highest_rise_code rises_place ≡ (decoding b).rises
  unfolding decoding
  rises-held = refl

  pub floors-held : cells_at b (decoding b).days highest_level present_place ≡ (decoding b).present.floors
  unfolding decoding ranges_at
  floors-held = refl

  pub ceilings-held : cells_at b (decoding b).days highest_level (present_place + block_length) ≡ (decoding b).present.ceilings
  unfolding decoding ranges_at
  ceilings-held = refl

  pub present-held : (total_at b present_totals_place ≡ (decoding b).present.lowest) × (total_at b (present_totals_place + total_length) ≡ (decoding b).present.highest)
  unfolding decoding ranges_at
  present-held = (refl, refl)

  pub opened-held : (total_at b opened_totals_place ≡ (decoding b).opened.lowest) × (total_at b (opened_totals_place + total_length) ≡ (decoding b).opened.highest)
  unfolding decoding ranges_at
  opened-held = (refl, refl)

  module _ (k : ℕ) (h : k < (decoding b).days) where
    pub floor-held : min (u16_at b (present_place + k * cell_length)) highest_level ≡ at (decoding b).present.floors k
    floor-held = rw (← floors-held) (sym (cell b (decoding b).days days_few highest_level present_place k h))

    pub ceiling-held : min (u16_at b (present_place + block_length + k * cell_length)) highest_level ≡ at (decoding b).present.ceilings k
    ceiling-held = rw (← ceilings-held) (sym (cell b (decoding b).days days_few highest_level (present_place + block_length) k h))

    pub opened-floor-held : min (u16_at b (opened_place + k * cell_length)) highest_level ≡ at (decoding b).opened.floors k
    unfolding decoding ranges_at
    opened-floor-held = sym (cell b (days_at b) days_few highest_level opened_place k h)

    pub opened-ceiling-held : min (u16_at b (opened_place + block_length + k * cell_length)) highest_level ≡ at (decoding b).opened.ceilings k
    unfolding decoding ranges_at
    opened-ceiling-held = sym (cell b (days_at b) days_few highest_level (opened_place + block_length) k h)

-- cells of all days, loaded over zeros
pub loaded : (b : List ℕ) (most place : ℕ) {n : ℕ} {entry out : List ℕ} → out ≡ written (λ k. min (u16_at b (place + k * cell_length)) most) n entry → entry ≡ zeros
    → n ≡ (decoding b).days → out ≡ cells_at b (decoding b).days most place
loaded b most place e z d = rw (z, d) at e
