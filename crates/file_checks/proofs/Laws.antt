-- The reader's checks, by what its tests found: for each function a law for each of its returns, over the counts that the header says.
use mathlib.Core.Path.{◌≡◌, refl, sym, ◌∙◌}
use mathlib.Core.Bool.{Bool, true, false, cond, ◌||◌, or-true, and-false}
use mathlib.Core.List.{List}
use Prim.Native.Nat.{ℕ, ◌+◌, ◌-◌, ◌*◌, ◌≤◌, ◌<◌}
use native.Mathlib.Nat.{le_refl}
use native.Mathlib.Omega.{arith}
use lib.Dec.{eqb, ltb}
use lib.ListN.{length}
use borrow.Author.Tests.{eq-eqb, ne_eqb, lt-ltb, le-ltb}
use Rattle.theory_lists.specs.First.{first_where, Nowhere, nowhere_here, nowhere_all}
use Rattle.theory_lists.specs.Checks.{cond-zero}
use Rattle.base_little_endian.specs.Fields.{u16_at}
use Rattle.base_little_endian.proofs.Laws.{zero_field}
use Rattle.file_format.specs.Format.{day_offset, file_length, day_count, cut_count, days_offset, cuts_offset, numbered_at}
use Rattle.file_format.specs.Reading.{bad_counts, bad_layout, bad_fields, bad_cut, early_reading}
use Rattle.file_format.proofs.Taken.{counted, laid}

-- ---- check_counts

module _ (days cuts : ℕ) where
  abbrev counts : ℕ
  counts = cond (eqb days 0 || ltb 512 days || ltb 512 cuts) 1 0

  pub no_days : days ≡ 0 → 1 ≡ counts
  no_days h = rw (eq-eqb days 0 h)

  pub many_days : 512 < days → 1 ≡ counts
  many_days h = rw (lt-ltb 512 days h, or-true)

  pub many_cuts : 512 < cuts → 1 ≡ counts
  many_cuts h = rw (lt-ltb 512 cuts h, or-true)

  pub counts-taken : (days ≡ 0 → ⊥) → days ≤ 512 → cuts ≤ 512 → 0 ≡ counts
  counts-taken h few cuts-few = rw (ne_eqb days 0 h, le-ltb 512 days few, le-ltb 512 cuts cuts-few)

-- n and m are the counts that the header says
pub record Said (b : List ℕ) (n m : ℕ) : Type 0 where
  pub days : n ≡ day_count b
  pub cuts : m ≡ cut_count b

-- ---- check_layout

abbrev layout : List ℕ → ℕ
layout b = cond (bad_layout b) 11 0

module _ (b : List ℕ) where
  pub days_elsewhere : {o : ℕ} → o ≡ days_offset b → (o ≡ 18 → ⊥) → 11 ≡ layout b
  days_elsewhere {o} eo h = rw (← eo, ne_eqb o 18 h)

  module _ {n m : ℕ} (k : Said b n m) where
    pub cuts_elsewhere : {o : ℕ} → o ≡ cuts_offset b → (o ≡ day_offset n → ⊥) → 11 ≡ layout b
    cuts_elsewhere {o} eo h = rw (← eo, ← k.days, ne_eqb o (day_offset n) h, and-false)

    pub wrong_length : (length b ≡ file_length n m → ⊥) → 11 ≡ layout b
    wrong_length h = rw (← k.days, ← k.cuts, ne_eqb (length b) (file_length n m) h, and-false)

    pub layout_taken : days_offset b ≡ 18 → cuts_offset b ≡ day_offset n → length b ≡ file_length n m → 0 ≡ layout b
    layout_taken ho hp h = rw (← k.days, ← k.cuts, eq-eqb (days_offset b) 18 ho, eq-eqb (cuts_offset b) (day_offset n) hp, eq-eqb (length b) (file_length n m) h)

-- ---- has_bad

module _ {t : ℕ → Bool} {n i : ℕ} (h : Nowhere t n i) where
  pub some_bad : i < n → t i ≡ true → true ≡ ltb (first_where t n) n
  some_bad l e = rw (← nowhere_here h l e, lt-ltb i n l)

  pub none_bad : n ≤ i → false ≡ ltb (first_where t n) n
  none_bad l = rw (← nowhere_all h l, le-ltb n n (le_refl n))

-- ---- check_fields

abbrev fields : List ℕ → ℕ
fields b = cond (bad_fields b) 12 0

-- one of the m cuts behind n days is bad
abbrev some_bad_cut : List ℕ → ℕ → ℕ → Bool
some_bad_cut b n m = ltb (first_where (λ j. bad_cut (numbered_at b (day_offset n + j * 8))) m) m

-- r is the rise of the last day, which there is
pub record Risen (b : List ℕ) (n m r : ℕ) : Type 0 where
  pub said : Said b n m
  pub some : 0 < n
  pub rise : r ≡ u16_at b (day_offset n - 2)

module _ (b : List ℕ) {n m : ℕ} where
  pub cut_bad : {f : Bool} → Said b n m → f ≡ some_bad_cut b n m → f ≡ true → 12 ≡ fields b
  cut_bad k ef h = rw (← k.days, ← k.cuts, ← ef, h, or-true)

  module _ {r : ℕ} (k : Risen b n m r) where
    last-rise : r ≡ u16_at b (day_offset (n - 1) + 4)
    last-rise = let q : day_offset n - 2 ≡ day_offset (n - 1) + 4 = omega (arith, k.some) in rw q at k.rise

    pub rise-left : (r ≡ 0 → ⊥) → 12 ≡ fields b
    rise-left h = rw (← k.said.days, zero_field b (day_offset (n - 1) + 4), ← last-rise, ne_eqb r 0 h)

    pub fields_taken : r ≡ 0 → {f : Bool} → f ≡ some_bad_cut b n m → f ≡ false → 0 ≡ fields b
    fields_taken hr ef h = rw (← k.said.days, ← k.said.cuts, ← ef, zero_field b (day_offset (n - 1) + 4), ← last-rise, eq-eqb r 0 hr, h)

-- ---- check_file

refuses : (t : Bool) (m : ℕ) {r : ℕ} → r ≡ cond t m 0 → (r ≡ 0 → ⊥) → (t ≡ true) × (r ≡ m)
refuses true m e h = (refl, e)
refuses false m e h = absurd (h e)

-- the header is there, and n and m are its counts
pub record Header (b : List ℕ) (n m : ℕ) : Type 0 where
  pub long : 18 ≤ length b
  pub said : Said b n m

-- and the counts are not refused
pub record Counted (b : List ℕ) (n m : ℕ) : Type 0 where
  pub header : Header b n m
  pub none : counts n m ≡ 0

-- nor is the layout
pub record Laid (b : List ℕ) (n m : ℕ) : Type 0 where
  pub counted : Counted b n m
  pub none : layout b ≡ 0

module _ (b : List ℕ) where
  pub no_header : length b < 18 → 11 ≡ early_reading b
  unfolding early_reading
  no_header h = rw (lt-ltb (length b) 18 h)

  module _ {n m : ℕ} where
    by_counts : Said b n m → counts n m ≡ cond (bad_counts b) 1 0
    by_counts k = rw (← k.days, ← k.cuts) refl

    pub counts-refused : {r : ℕ} → Header b n m → r ≡ counts n m → (r ≡ 0 → ⊥) → r ≡ early_reading b
    unfolding early_reading
    counts-refused k er h = let t = refuses (bad_counts b) 1 (er ∙ by_counts k.said) h in rw (le-ltb (length b) 18 k.long, t.0) t.1

    module _ (k : Counted b n m) where
      counts_good : bad_counts b ≡ false
      counts_good = (cond-zero (bad_counts b) 0 0 (sym (by_counts k.header.said) ∙ k.none)).0

      pub counted-here : (0 < day_count b) × (day_count b ≤ 512) × (cut_count b ≤ 512)
      counted-here = counted b counts_good

      pub layout_refused : {s : ℕ} → s ≡ layout b → (s ≡ 0 → ⊥) → s ≡ early_reading b
      unfolding early_reading
      layout_refused es h = let t = refuses (bad_layout b) 11 es h in rw (le-ltb (length b) 18 k.header.long, counts_good, t.0) t.1

    module _ (k : Laid b n m) where
      layout_good : bad_layout b ≡ false
      layout_good = (cond-zero (bad_layout b) 10 0 k.none).0

      pub whole_here : file_length n m ≡ length b
      whole_here = let s = k.counted.header.said in rw (s.days, s.cuts) (sym (laid b layout_good).2)

      pub fields_last : {t : ℕ} → t ≡ fields b → t ≡ early_reading b
      unfolding early_reading
      fields_last e = rw (le-ltb (length b) 18 k.counted.header.long, counts_good k.counted, layout_good) e
