-- How long the parts of a session's bytes are.
use mathlib.Core.Path.{◌≡◌}
use mathlib.Core.List.{List}
use Prim.Native.Nat.{ℕ, ◌*◌, ◌≤◌}
use native.Mathlib.Omega.{arith}
use lib.ListN.{length, length-append, length-replicate}
use Rattle.theory_lists.specs.Rows.{length-rows}
use Rattle.base_little_endian.specs.Fields.{u16_bytes}
use Rattle.base_little_endian.proofs.Laws.{u16-length, i32_length}
use Rattle.c_lists.specs.Lists.{cell_bytes}
use Rattle.session.specs.declared.Session.{Session}
use Rattle.c_layout.specs.Layout.{session_bytes, total_bytes, block_bytes, encoding}

pub totals-length : (least most : ℕ) → length (total_bytes least most) ≡ 8
unfolding total_bytes
totals-length least most = simp (length-append, i32_length)

pub cells_length : (f : ℕ → ℕ) (n : ℕ) → length (cell_bytes f n) ≡ n * 2
unfolding cell_bytes
cells_length f n = length-rows (λ k. u16_bytes (f k)) 2 n (λ k h. u16-length (f k))

pub block_length_lem : (xs : List ℕ) (n : ℕ) → n ≤ 512 → length (block_bytes xs n) ≡ 1024
unfolding block_bytes
block_length_lem xs n h = simp (length-append, cells_length, length-replicate) (omega arith)

pub encoding-length : (s : Session) → s.days ≤ 512 → length (encoding s) ≡ session_bytes
unfolding encoding
encoding-length s h = simp (length-append, u16-length, totals-length, block_length_lem)
