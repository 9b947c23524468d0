-- What the reader's checks before 2 let pass.
use mathlib.Core.Path.{◌≡◌, refl, sym, ◌∙◌}
use mathlib.Core.Bool.{Bool, false, not, ◌&&◌, ◌||◌, and-eq-true_iff}
use mathlib.Core.List.{List}
use Prim.Native.Nat.{ℕ, ◌+◌, ◌-◌, ◌≤◌, ◌<◌}
use native.Mathlib.Nat.{le_refl}
use native.Mathlib.Omega.{arith}
use lib.IntN.{nat_abs}
use lib.Dec.{eqb, ltb}
use lib.ListN.{length}
use borrow.Author.Tests.{not-false, ltb-false, le-ltb, eqb-true, eqb-false, eq-eqb, ne_eqb}
use Rattle.theory_lists.specs.Checks.{cond-zero, or-false}
use Rattle.theory_lists.specs.First.{first_where, first, first-only}
use Rattle.base_little_endian.specs.Fields.{u16_at}
use Rattle.base_little_endian.proofs.Laws.{zero_field}
use Rattle.file_format.specs.Format.{day_offset, file_length, day_count, cut_count, days_offset, cuts_offset, rise_at, cut_at}
use Rattle.file_format.specs.Reading.{no_header, bad_counts, bad_layout, bad_cut, bad_fields, early_reading}

pub record Taken (b : List ℕ) : Type 0 where
  pub some : 0 < day_count b
  pub few : day_count b ≤ 512
  pub few_cuts : cut_count b ≤ 512
  pub days : days_offset b ≡ 18
  pub cuts : cuts_offset b ≡ day_offset (day_count b)
  pub whole : length b ≡ file_length (day_count b) (cut_count b)
  pub last : u16_at b (day_offset (day_count b - 1) + 4) ≡ 0
  pub good : (j : ℕ) → j < cut_count b → bad_cut (cut_at b j) ≡ false

-- what 1 lets pass
pub counted : (b : List ℕ) → bad_counts b ≡ false → (0 < day_count b) × (day_count b ≤ 512) × (cut_count b ≤ 512)
counted b e =
    let counts = or-false (eqb (day_count b) 0 || ltb 512 (day_count b)) (ltb 512 (cut_count b)) e in
    let days = or-false (eqb (day_count b) 0) (ltb 512 (day_count b)) counts.0 in
    let apart : (day_count b ≡ 0 → ⊥) = eqb-false _ _ days.0 in
    (omega (arith, apart), ltb-false _ _ days.1, ltb-false _ _ counts.1)

-- what the second 11 lets pass
pub laid : (b : List ℕ) → bad_layout b ≡ false → (days_offset b ≡ 18) × (cuts_offset b ≡ day_offset (day_count b)) × (length b ≡ file_length (day_count b) (cut_count b))
laid b e =
    let starts : Bool = eqb (days_offset b) 18 in
    let ends : Bool = eqb (cuts_offset b) (day_offset (day_count b)) in
    let long : Bool = eqb (length b) (file_length (day_count b) (cut_count b)) in
    let layout = (and-eq-true_iff (starts && ends) long).0 (not-false _ e) in
    let offsets = (and-eq-true_iff starts ends).0 layout.0 in
    (eqb-true _ _ offsets.0, eqb-true _ _ offsets.1, eqb-true _ _ layout.1)

pub taken : (b : List ℕ) → early_reading b ≡ 0 → Taken b
unfolding early_reading
taken b e =
    let c1 = cond-zero (no_header b) 10 _ e in
    let c2 = cond-zero (bad_counts b) 0 _ c1.1 in
    let c3 = cond-zero (bad_layout b) 10 _ c2.1 in
    let c4 = cond-zero (bad_fields b) 11 _ c3.1 in
    let counts = counted b c2.0 in
    let layout = laid b c3.0 in
    let bad : ℕ = first_where (λ j. bad_cut (cut_at b j)) (cut_count b) in
    let fields = or-false (not (eqb (nat_abs (rise_at b (day_count b - 1))) 0)) (ltb bad (cut_count b)) c4.0 in
    let none : cut_count b ≤ bad = ltb-false bad (cut_count b) fields.1 in
    let bads = first (λ j. bad_cut (cut_at b j)) (cut_count b) in
    record {
      some = counts.0;
      few = counts.1;
      few_cuts = counts.2;
      days = layout.0;
      cuts = layout.1;
      whole = layout.2;
      last = eqb-true _ _ (sym (zero_field b (day_offset (day_count b - 1) + 4)) ∙ not-false _ fields.0);
      good = λ j h. bads.before j (omega (arith, none));
    }

pub not-refused : (b : List ℕ) → Taken b → early_reading b ≡ 0
unfolding early_reading
not-refused b t =
    let bad : ℕ = first_where (λ j. bad_cut (cut_at b j)) (cut_count b) in
    let none : cut_count b ≡ bad = first-only (record { most = le_refl (cut_count b); before = t.good; here = λ h. absurd (omega arith) }) in
    rw (
      le-ltb (length b) 18 (omega (arith, t.whole)),
      ne_eqb (day_count b) 0 (λ z. omega (arith, t.some)),
      le-ltb 512 (day_count b) t.few,
      le-ltb 512 (cut_count b) t.few_cuts,
      eq-eqb (days_offset b) 18 t.days,
      eq-eqb (cuts_offset b) (day_offset (day_count b)) t.cuts,
      eq-eqb (length b) (file_length (day_count b) (cut_count b)) t.whole,
      zero_field b (day_offset (day_count b - 1) + 4),
      eq-eqb (u16_at b (day_offset (day_count b - 1) + 4)) 0 t.last,
      le-ltb bad (cut_count b) (omega (arith, none)),
    ) refl
