-- Document 01's fields of a file: little-endian, of 2 or 4 bytes, a signed one in two's complement.
use Rattle.std.specs.Prelude.{List, [], ◌∷◌, ◌++◌, ℕ, ◌+◌, ◌*◌, ◌/◌, ◌%◌, ◌<◌, ℤ}
use Rattle.std.specs.Int.{w16, w32}
use Rattle.std.proofs.Common.{to_z, of_z}
use Rattle.theory_lists.specs.Sum.{at}

-- a list of bytes: numbers of 8 bits
pub record Bytes (b : List ℕ) : Type 0 where
  pub small : (k : ℕ) → at b k < 256

-- the unsigned field that begins at a place of a file's bytes
unfoldable pub u16_at : List ℕ → ℕ → ℕ
u16_at b i = at b i + 256 * at b (i + 1)

unfoldable pub u32_at : List ℕ → ℕ → ℕ
u32_at b i = u16_at b i + 65536 * u16_at b (i + 2)

-- the signed one: `to_z` gives the number that has these bits
unfoldable pub i16_at : List ℕ → ℕ → ℤ
i16_at b i = to_z w16 (u16_at b i)

unfoldable pub i32_at : List ℕ → ℕ → ℤ
i32_at b i = to_z w32 (u32_at b i)

-- the bytes of a number: `of_z` gives its bits
unfoldable pub u16_bytes : ℕ → List ℕ
u16_bytes n = n % 256 ∷ n / 256 ∷ []

unfoldable pub u32_bytes : ℕ → List ℕ
u32_bytes n = u16_bytes (n % 65536) ++ u16_bytes (n / 65536)

unfoldable pub i16_bytes : ℤ → List ℕ
i16_bytes z = u16_bytes (of_z w16 z)

unfoldable pub i32_bytes : ℤ → List ℕ
i32_bytes z = u32_bytes (of_z w32 z)
