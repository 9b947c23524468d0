-- Fields and their bytes: what was stored is read, and what is read has those bytes.
use Prim.Native.Nat.{ℕ, zero, suc, ◌+◌, ◌-◌, ◌/◌, ◌%◌, ◌<◌}
use mathlib.Core.Path.{◌≡◌, refl}
use mathlib.Core.List.{List, [], ◌∷◌}
use native.Mathlib.Omega.{arith}
use native.Mathlib.Decide.{dec_lt}
use lib.IntN.{ℤ, pos, nat_abs}
use lib.Dec.{eqb}
use lib.ListN.{length, set}
use lib.Seq.{sets}
use native.Mathlib.Numerals.{add-one}
use borrow.Author.Tests.{lt-ltb, le-ltb, ne_eqb}
use mir.Syntax.{w16, w32}
use mir.Val.{Fits, SFits, to_z, of_z}
use mir.Facts.{to_z-of_z, of_z-to_z, Fits-of_z}
use Rattle.std.specs.Int.{from_le_bytes, to_le_bytes}
use Rattle.theory_lists.specs.Sum.{at}
use Rattle.theory_lists.specs.Part.{Part, part_left, part_right, part_both}
use Rattle.base_little_endian.specs.Fields.{Bytes, u16_at, u32_at, i16_at, i32_at, u16_bytes, u32_bytes, i16_bytes, i32_bytes}

pub u16-length : (n : ℕ) → length (u16_bytes n) ≡ 2
unfolding u16_bytes
u16-length n = refl

pub u32_length : (n : ℕ) → length (u32_bytes n) ≡ 4
unfolding u32_bytes u16_bytes
u32_length n = refl

pub i16_length : (z : ℤ) → length (i16_bytes z) ≡ 2
unfolding i16_bytes
i16_length z = u16-length (of_z w16 z)

pub i32_length : (z : ℤ) → length (i32_bytes z) ≡ 4
unfolding i32_bytes
i32_length z = u32_length (of_z w32 z)

-- a signed field is 0 where its bits are
pub zero_field : (b : List ℕ) (i : ℕ) → eqb (nat_abs (i16_at b i)) 0 ≡ eqb (u16_at b i) 0
unfolding i16_at
zero_field b i = go (dec_lt (u16_at b i) 32768)
  where
    go : Dec (u16_at b i < 32768) → eqb (nat_abs (to_z w16 (u16_at b i))) 0 ≡ eqb (u16_at b i) 0
    go (yes h) = rw (lt-ltb (u16_at b i) 32768 h) refl
    go (no h) = rw (le-ltb (u16_at b i) 32768 (omega arith), ne_eqb (u16_at b i) 0 (λ z. omega arith)) (ne_eqb (suc (65536 - suc (u16_at b i))) 0 (λ z. omega arith))

-- ---- in std's words

pub u16-of : (b : List ℕ) (i : ℕ) → from_le_bytes w16 (at b i ∷ at b (i + 1) ∷ []) ≡ u16_at b i
unfolding u16_at
u16-of b i = omega arith

pub u32-of : (b : List ℕ) (i : ℕ) → from_le_bytes w32 (at b i ∷ at b (i + 1) ∷ at b (i + 2) ∷ at b (i + 3) ∷ []) ≡ u32_at b i
unfolding u32_at u16_at
u32-of b i = let e : i + 2 + 1 ≡ i + 3 = omega arith in rw e (omega arith)

pub u16-to : {n : ℕ} → Fits w16 n → to_le_bytes w16 n ≡ u16_bytes n
unfolding u16_bytes
u16-to {n} f = let e : n / 256 % 256 ≡ n / 256 = omega (arith, f.fits) in rw e refl

pub two_stored : (l : List ℕ) (i n : ℕ) {bytes : List ℕ} → bytes ≡ u16_bytes n → set (set l i (at bytes 0)) (i + 1) (at bytes 1) ≡ sets l i (u16_bytes n)
unfolding u16_bytes
two_stored l i n e = rw (e, add-one) refl

u32-to : {n : ℕ} → Fits w32 n → to_le_bytes w32 n ≡ u32_bytes n
unfolding u32_bytes u16_bytes
u32-to {n} f =
    let a : n % 65536 % 256 ≡ n % 256 = omega arith in
    let b : n % 65536 / 256 ≡ n / 256 % 256 = omega arith in
    let c : n / 16777216 % 256 ≡ n / 65536 / 256 = omega (arith, f.fits) in
    rw (a, b, c) refl

pub i16_bits : {z : ℤ} {n : ℕ} → SFits w16 z → n ≡ of_z w16 (to_z w16 (of_z w16 z)) → u16_bytes n ≡ i16_bytes z
unfolding i16_bytes
i16_bits f e = rw (e, to_z-of_z f) refl

pub i32-to : {z : ℤ} → SFits w32 z → to_le_bytes w32 (of_z w32 (to_z w32 (of_z w32 z))) ≡ i32_bytes z
unfolding i32_bytes
i32-to f = rw (to_z-of_z f) (u32-to (Fits-of_z f))

pub four_stored : (l : List ℕ) (i : ℕ) (z : ℤ) {bytes : List ℕ} → bytes ≡ i32_bytes z
    → set (set (set (set l i (at bytes 0)) (i + 1) (at bytes 1)) (i + 2) (at bytes 2)) (i + 3) (at bytes 3) ≡ sets l i (i32_bytes z)
unfolding i32_bytes u32_bytes u16_bytes
four_stored l i z e =
    let b : i + 1 ≡ suc i = omega arith in
    let c : i + 2 ≡ suc (suc i) = omega arith in
    let d : i + 3 ≡ suc (suc (suc i)) = omega arith in
    rw (e, b, c, d) refl

-- ---- read back

module _ {b : List ℕ} where
  pub u16-read : {i : ℕ} (n : ℕ) → Part b i (u16_bytes n) → u16_at b i ≡ n
  unfolding u16_bytes u16_at
  u16-read {i} n p =
      let low : at b (i + 0) ≡ n % 256 = p.has 0 (omega arith) in
      let high : at b (i + 1) ≡ n / 256 = p.has 1 (omega arith) in
      let z : i + 0 ≡ i = omega arith in
      omega (arith, rw z at low, high)

  u32_read : {i : ℕ} (n : ℕ) → Part b i (u32_bytes n) → u32_at b i ≡ n
  unfolding u32_bytes u32_at
  u32_read {i} n p =
      let low : u16_at b i ≡ n % 65536 = u16-read (n % 65536) (part_left (u16_bytes (n % 65536)) (u16_bytes (n / 65536)) (u16-length (n % 65536)) p) in
      let high : u16_at b (i + 2) ≡ n / 65536 = u16-read (n / 65536) (part_right (u16_bytes (n % 65536)) (u16_bytes (n / 65536)) (u16-length (n % 65536)) p) in
      omega (arith, low, high)

  pub i16_read : {i : ℕ} (z : ℤ) → SFits w16 z → Part b i (i16_bytes z) → i16_at b i ≡ z
  unfolding i16_bytes i16_at
  i16_read z f p = rw (u16-read (of_z w16 z) p) (to_z-of_z f)

  pub zero-read : {i : ℕ} → Part b i (i16_bytes (pos 0)) → u16_at b i ≡ 0
  unfolding i16_bytes
  zero-read p = u16-read 0 p

  pub i32_read : {i : ℕ} (z : ℤ) → SFits w32 z → Part b i (i32_bytes z) → i32_at b i ≡ z
  unfolding i32_bytes i32_at
  i32_read z f p = rw (u32_read (of_z w32 z) p) (to_z-of_z f)

-- ---- the bytes of what is read

two : (b : List ℕ) (i x y : ℕ) → at b i ≡ x → at b (i + 1) ≡ y → Part b i (x ∷ y ∷ [])
two b i x y e f = record { has = go }
  where
    go : (j : ℕ) → j < 2 → at b (i + j) ≡ at (x ∷ y ∷ []) j
    go zero h = let z : i + 0 ≡ i = omega arith in rw z e
    go (suc zero) h = f
    go (suc (suc j)) h = absurd (omega arith)

module _ {b : List ℕ} (bytes : Bytes b) (i : ℕ) where
  pub u16-most : u16_at b i < 65536
  unfolding u16_at
  u16-most = omega (arith, bytes.small i, bytes.small (i + 1))

  pub u16_part : Part b i (u16_bytes (u16_at b i))
  unfolding u16_bytes u16_at
  u16_part = two b i _ _ (omega (arith, bytes.small i, bytes.small (i + 1))) (omega (arith, bytes.small i, bytes.small (i + 1)))

  pub i16_part : Part b i (i16_bytes (i16_at b i))
  unfolding i16_bytes i16_at
  i16_part = rw (of_z-to_z {w = w16} {n = u16_at b i} (record { fits = u16-most })) u16_part

  pub zero_part : u16_at b i ≡ 0 → Part b i (i16_bytes (pos 0))
  unfolding i16_bytes
  zero_part e = rw e at u16_part

module _ {b : List ℕ} (bytes : Bytes b) (i : ℕ) where
  u32_most : u32_at b i < 4294967296
  unfolding u32_at
  u32_most = omega (arith, u16-most bytes i, u16-most bytes (i + 2))

  u32_part : Part b i (u32_bytes (u32_at b i))
  unfolding u32_bytes u32_at
  u32_part =
      let low : u32_at b i % 65536 ≡ u16_at b i = omega (arith, u16-most bytes i, u16-most bytes (i + 2)) in
      let high : u32_at b i / 65536 ≡ u16_at b (i + 2) = omega (arith, u16-most bytes i, u16-most bytes (i + 2)) in
      rw (low, high) (part_both (u16_bytes (u16_at b i)) (u16_bytes (u16_at b (i + 2))) (u16-length (u16_at b i)) (u16_part bytes i) (u16_part bytes (i + 2)))

  pub i32_part : Part b i (i32_bytes (i32_at b i))
  unfolding i32_bytes i32_at
  i32_part = rw (of_z-to_z {w = w32} {n = u32_at b i} (record { fits = u32_most })) u32_part
