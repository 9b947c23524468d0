-- Damaged files: how many the reader's definition `early_reading` takes, and how many it refuses. The program counts the same.
use Rattle.std.specs.Prelude.{◌≡◌, ℕ, zero, suc, ◌+◌, ◌%◌, cond, List, [], ◌∷◌, length, take, ◌==◌, slice_set, refl}
use Rattle.std.proofs.Common.{sym, ◌∙◌, zero-add, add-zero, suc-add, add_assoc, arith}
use Rattle.theory_lists.specs.Sum.{at}
use Rattle.theory_lists.specs.First.{first_where}
use Rattle.base_little_endian.specs.Fields.{u16_at, i16_at}
use Rattle.session_cuts.specs.Numbered.{numbered}
use Rattle.file_format.specs.Example.{doc01}
use Rattle.file_format.specs.Reading.{early_reading}

-- ---- the files

-- examples/too_warm.profile
abbrev pub too_warm : List ℕ
too_warm =
    10 ∷ 0 ∷ 0 ∷ 0 ∷ 18 ∷ 0 ∷ 78 ∷ 0 ∷ 80 ∷ 70 ∷ 0 ∷ 0 ∷ 8 ∷ 82 ∷ 0 ∷ 0
    ∷ 0 ∷ 0
    ∷ 8 ∷ 7 ∷ 208 ∷ 7 ∷ 75 ∷ 0
    ∷ 8 ∷ 7 ∷ 208 ∷ 7 ∷ 75 ∷ 0
    ∷ 8 ∷ 7 ∷ 208 ∷ 7 ∷ 75 ∷ 0
    ∷ 8 ∷ 7 ∷ 208 ∷ 7 ∷ 75 ∷ 0
    ∷ 8 ∷ 7 ∷ 208 ∷ 7 ∷ 75 ∷ 0
    ∷ 8 ∷ 7 ∷ 52 ∷ 8 ∷ 75 ∷ 0
    ∷ 8 ∷ 7 ∷ 52 ∷ 8 ∷ 75 ∷ 0
    ∷ 8 ∷ 7 ∷ 52 ∷ 8 ∷ 75 ∷ 0
    ∷ 8 ∷ 7 ∷ 52 ∷ 8 ∷ 75 ∷ 0
    ∷ 8 ∷ 7 ∷ 52 ∷ 8 ∷ 0 ∷ 0 ∷ []

-- ---- tallies

-- how many files the reader takes, and how many it refuses with 1, with 11 and with 12
pub record Tally : Type 0 where
  pub taken : ℕ
  pub one : ℕ
  pub eleven : ℕ
  pub twelve : ℕ

abbrev pub tally : ℕ → ℕ → ℕ → ℕ → Tally
tally taken one eleven twelve = record { taken = taken; one = one; eleven = eleven; twelve = twelve }

-- one file; another refusal is not counted
unfoldable pub tallied : List ℕ → Tally
tallied b =
    let refusal : ℕ = early_reading b in
    cond (refusal == 0) (tally 1 0 0 0)
    (cond (refusal == 1) (tally 0 1 0 0)
    (cond (refusal == 11) (tally 0 0 1 0)
    (cond (refusal == 12) (tally 0 0 0 1) (tally 0 0 0 0))))

abbrev pub plus : Tally → Tally → Tally
plus s t = tally (s.taken + t.taken) (s.one + t.one) (s.eleven + t.eleven) (s.twelve + t.twelve)

-- t i, t (i + 1), .. , n of them
unfoldable pub tally_sum : (ℕ → Tally) → ℕ → ℕ → Tally
tally_sum t i zero = tally 0 0 0 0
tally_sum t i (suc n) = plus (t i) (tally_sum t (suc i) n)

abbrev pub truncations : List ℕ → Tally
truncations b = tally_sum (λ k. tallied (take k b)) 0 (length b)

-- the byte at place i changed to each of its other values
abbrev pub byte_changes : List ℕ → ℕ → Tally
byte_changes b i = tally_sum (λ d. tallied (slice_set b i ((at b i + d) % 256))) 1 255

-- each of n bytes from place i on
abbrev pub changes : List ℕ → ℕ → ℕ → Tally
changes b i n = tally_sum (byte_changes b) i n

-- ---- the tally of two parts of a file; a reader may pass this over

plus_none : (s : Tally) → s ≡ plus (tally 0 0 0 0) s
plus_none s = λ j. tally (sym (zero-add s.taken) j) (sym (zero-add s.one) j) (sym (zero-add s.eleven) j) (sym (zero-add s.twelve) j)

plus_assoc : (r s u : Tally) → plus (plus r s) u ≡ plus r (plus s u)
plus_assoc r s u =
    λ j. tally (add_assoc r.taken s.taken u.taken j) (add_assoc r.one s.one u.one j) (add_assoc r.eleven s.eleven u.eleven j) (add_assoc r.twelve s.twelve u.twelve j)

sum_parts : (t : ℕ → Tally) (i m n : ℕ) → tally_sum t i (m + n) ≡ plus (tally_sum t i m) (tally_sum t (i + m) n)
unfolding tally_sum
sum_parts t i zero n = rw (zero-add, add-zero) (plus_none (tally_sum t i n))
sum_parts t i (suc m) n =
    let d : i + suc m ≡ suc i + m = omega arith in
    rw (suc-add, d, sum_parts t (suc i) m n) (sym (plus_assoc (t i) (tally_sum t (suc i) m) (tally_sum t (suc i + m) n)))

two_parts : (b : List ℕ) (i m n : ℕ) {s t : Tally} → changes b i m ≡ s → changes b (i + m) n ≡ t → changes b i (m + n) ≡ plus s t
two_parts b i m n p q = sum_parts (byte_changes b) i m n ∙ rw (p, q) refl

-- ---- by computation; the changes part by part, which takes less memory

pub doc01_truncated : truncations doc01 ≡ tally 0 0 52 0
unfolding doc01 tally_sum tallied early_reading u16_at i16_at numbered first_where
doc01_truncated = refl

doc01-header : changes doc01 0 18 ≡ tally 2550 509 1531 0
unfolding doc01 tally_sum tallied early_reading u16_at i16_at numbered first_where
doc01-header = refl

doc01-days : changes doc01 18 18 ≡ tally 4080 0 0 510
unfolding doc01 tally_sum tallied early_reading u16_at i16_at numbered first_where
doc01-days = refl

doc01-cuts : changes doc01 36 16 ≡ tally 2556 0 0 1524
unfolding doc01 tally_sum tallied early_reading u16_at i16_at numbered first_where
doc01-cuts = refl

pub doc01-changed : changes doc01 0 (length doc01) ≡ tally 9186 509 1531 2034
unfolding doc01
doc01-changed = two_parts doc01 0 36 16 (two_parts doc01 0 18 18 doc01-header doc01-days) doc01-cuts

pub too_warm_truncated : truncations too_warm ≡ tally 0 0 78 0
unfolding tally_sum tallied early_reading u16_at i16_at numbered first_where
too_warm_truncated = refl

too_warm_header : changes too_warm 0 18 ≡ tally 2550 508 1532 0
unfolding tally_sum tallied early_reading u16_at i16_at numbered first_where
too_warm_header = refl

-- days 0 to 2, 3 to 5, 6 to 9
too_warm_first : changes too_warm 18 18 ≡ tally 4590 0 0 0
unfolding tally_sum tallied early_reading u16_at i16_at numbered first_where
too_warm_first = refl

too_warm_next : changes too_warm 36 18 ≡ tally 4590 0 0 0
unfolding tally_sum tallied early_reading u16_at i16_at numbered first_where
too_warm_next = refl

too_warm_last : changes too_warm 54 24 ≡ tally 5610 0 0 510
unfolding tally_sum tallied early_reading u16_at i16_at numbered first_where
too_warm_last = refl

pub too_warm_changed : changes too_warm 0 (length too_warm) ≡ tally 17340 508 1532 510
too_warm_changed =
    two_parts too_warm 0 54 24 (two_parts too_warm 0 36 18 (two_parts too_warm 0 18 18 too_warm_header too_warm_first) too_warm_next) too_warm_last
