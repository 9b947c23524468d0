-- A file longer than every file that the reader takes is refused for its header, so that its first 7,187 bytes tell what is printed.
use mathlib.Core.Path.{◌≡◌, refl, ap, sym, ◌∙◌}
use mathlib.Core.Bool.{Bool, true, false, cond, and-false}
use mathlib.Core.List.{List}
use Prim.Native.Nat.{ℕ, ◌+◌, ◌<◌}
use native.Mathlib.Omega.{arith}
use lib.ListN.{length, take}
use lib.Seq.{get_or-take, length-take-le}
use borrow.Author.Tests.{le-ltb, ne_eqb}
use Rattle.base_little_endian.specs.Fields.{u16_at}
use Rattle.file_format.specs.Format.{file_length, day_count, cut_count}
use Rattle.file_format.proofs.Taken.{counted}
use Rattle.file_format.specs.Reading.{bad_counts, bad_layout, bad_fields, early_reading}
use Rattle.file_printing.specs.Printing.{printed, refused_line, PrintedLong}
use Rattle.file_printing.proofs.Lines.{read-refused}

-- 1 for the counts, else 11 for the length
long-refused : (b : List ℕ) → 7186 < length b → early_reading b ≡ cond (bad_counts b) 1 11
unfolding early_reading
long-refused b h = rw (le-ltb (length b) 18 (omega arith)) (go (bad_counts b) refl)
  where
    go : (bad : Bool) → bad_counts b ≡ bad → ◌≡◌ {A = ℕ} (cond bad 1 (cond (bad_layout b) 11 (cond (bad_fields b) 12 0))) (cond bad 1 11)
    go true e = refl
    go false e =
        let counts = counted b e in
        rw (ne_eqb (length b) (file_length (day_count b) (cut_count b)) (λ q. omega (arith, counts.1, counts.2)), and-false) refl

-- the refusal's number is not 0
some_number : (bad : Bool) {n : ℕ} → n ≡ cond bad 1 11 → n ≡ 0 → ⊥
some_number true e z = omega arith
some_number false e z = omega arith

-- a field of the first n bytes
field_same : (b : List ℕ) (n i : ℕ) → i + 1 < n → u16_at (take n b) i ≡ u16_at b i
unfolding u16_at
field_same b n i h = rw (get_or-take n b i 0 (omega arith), get_or-take n b (i + 1) 0 h) refl

long-printed : (b : List ℕ) → 7186 < length b → printed b ≡ refused_line (cond (bad_counts b) 1 11)
long-printed b h =
    let e = long-refused b h in
    read-refused b (some_number (bad_counts b) e) ∙ ap refused_line e

-- so many bytes of a longer file are enough
pub printed-long : PrintedLong
printed-long b h =
    let few = length-take-le 7187 b h in
    let same : bad_counts (take 7187 b) ≡ bad_counts b = rw (field_same b 7187 0 (omega arith), field_same b 7187 2 (omega arith)) refl in
    long-printed (take 7187 b) (omega arith) ∙ ap (λ bad. refused_line (cond bad 1 11)) same ∙ sym (long-printed b h)
