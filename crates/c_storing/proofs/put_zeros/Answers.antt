-- `put_zeros` meets its contract: what std's fill leaves is zeros, stored at their place (`pasted` of Rows).
use Prim.Native.Nat.{ℕ, ◌-◌}
use mathlib.Core.Path.{◌≡◌}
use native.Mathlib.Omega.{arith}
use lib.ListN.{length, take, drop, length-drop, length-take, length-replicate}
use Rattle.theory_lists.specs.Rows.{pasted}
use Rattle.c_storing.proofs.put_zeros.Goals as goal

pub returns : goal.returns
returns c =
    let a = c.args in
    let n : length (take (a.to - a.from) (drop a.from a.out.now)) ≡ a.to - a.from = simp (length-take, length-drop) (omega (arith, c.requires)) in
    pasted _ _ (rw n at (c.fill.ensures.after (λ y e. e))) (omega (arith, length-replicate {A = ℕ} (a.to - a.from) 0)) (omega (arith, c.requires))
