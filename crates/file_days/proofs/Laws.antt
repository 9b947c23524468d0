-- The last day, stored behind the others.
use mathlib.Core.Path.{◌≡◌, ◌∙◌}
use mathlib.Core.List.{List}
use Prim.Native.Nat.{ℕ, ◌+◌, ◌-◌, ◌≤◌, ◌<◌}
use native.Mathlib.Omega.{arith}
use lib.ListN.{set}
use Rattle.theory_lists.specs.Written.{written, written-more}
use Rattle.theory_lists.specs.Filled.{Filled, filled-all}

-- of n values all but the last, k of them, are stored in l, which makes mid; v is stored behind them, which makes out
pub record Last {A : Type 0} (f : ℕ → A) (n k : ℕ) (l mid out : List A) (v : A) : Type 0 where
  pub some : 0 < n
  pub filled : Filled f (n - 1) k l mid
  pub all : n - 1 ≤ k
  pub value : v ≡ f (n - 1)
  pub stored : out ≡ set mid (n - 1) v

pub last_stored : {A : Type 0} {f : ℕ → A} {n k : ℕ} {l mid out : List A} {v : A} → Last f n k l mid out v → out ≡ written f n l
last_stored {f = f} {n = n} {l = l} {v = v} h =
    let q : n - 1 + 1 ≡ n = omega (arith, h.some) in
    h.stored ∙ rw (filled-all h.filled h.all) (rw q at (written-more f (n - 1) l v h.value))
