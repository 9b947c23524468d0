-- `put_decimal` meets its contract, by `Led` of Laws where the arms meet. The measure of the recursion is the number.
use native.Mathlib.Omega.{arith}
use mathlib.Core.Path.{◌∙◌}
use Prim.Native.Nat.{ℕ}
use Rattle.base_text.proofs.Digits.{length_large}
use Rattle.base_text.proofs.Laws.{Led, led_small, led_large}
use Rattle.base_text.proofs.+put_decimal.Goals as goal
use Rattle.base_text.proofs.+put_decimal.Goals.{then-n-gt9, else-n-gt9, Joined-n-gt9}

-- where the arms meet
joined : (t : ℕ) (c : Joined-n-gt9 t) → Led c.args.n c.args.at c.args.out.now c.if-n-gt9.next c.if-n-gt9.out
joined t c = elim c.if-n-gt9.branch [
  | then-n-gt9 w ↦ led_large w.if-n-gt9.true (w.out-is ∙ w.put_decimal-next.ensures.out_after) (w.next-is ∙ w.put_decimal-next.ensures.value)
  | else-n-gt9 w ↦ led_small (omega (arith, w.if-n-gt9.false)) w.out-is w.next-is
]

pub put_decimal-next-requires : goal.put_decimal-next-requires
put_decimal-next-requires t c = (omega (arith, c.decreases), omega (arith, length_large c.args.n (omega arith)))

pub bounds-out-next : goal.bounds-out-next
bounds-out-next t c = omega (arith, joined t c)

pub overflow_add-result : goal.overflow_add-result
overflow_add-result t c = omega (arith, (joined t (goal.at.overflow_add-result t c).Joined-n-gt9).ends)

pub returns : goal.returns
returns t c = let j = joined t (goal.at.returns t c).Joined-n-gt9 in record { out_after = j.made; value = j.ends }
