-- `put_each_point` meets its contract: j points are stored from `place` on (`Stored`), whatever f says what the calls give.
use Prim.Native.Nat.{ℕ, ◌+◌, ◌*◌, ◌<◌}
use mathlib.Core.Path.{◌≡◌}
use lib.IntN.{ℤ}
use Rattle.base_little_endian.specs.Fields.{i16_bytes}
use Rattle.theory_lists.specs.Rows.{Stored}
use Rattle.c_lists.proofs.put_each_point.Given as goal

abbrev pub invariant-loop-j : goal.invariant-loop-j
invariant-loop-j g l =
    (f : ℕ → ℤ) → ((k : ℕ) (z : _) → k < l.n → goal.F-post g l.point k z → z ≡ f k)
    → Stored (λ k. i16_bytes (f k)) l.n l.place l.initial.out l.j (l.place + l.j * 2) l.out
