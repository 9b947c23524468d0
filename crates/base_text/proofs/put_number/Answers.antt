-- `put_number` meets its contract: with a minus sign before the digits of a negative number (`negative`), else the digits (`not_negative`).
use mathlib.Core.Path.{◌≡◌, ap, ◌∙◌}
use mathlib.Core.List.{[], ◌∷◌}
use native.Mathlib.Omega.{arith}
use lib.ListN.{length, length-set}
use Rattle.theory_lists.specs.Rows.{sets_append}
use Rattle.base_text.specs.Numbers.{decimal, number}
use Rattle.base_text.proofs.Laws.{negative, not_negative}
use Rattle.base_text.proofs.put_number.Goals as goal
use Rattle.base_text.proofs.put_number.Goals.{Then-z-lt0, Else-z-lt0}

-- the text, in each arm
minus : (c : Then-z-lt0) → number c.args.z ≡ 45 ∷ decimal c.unsigned_abs-magnitude.result
minus c = negative c.ranges.z c.unsigned_abs-magnitude.ensures.value c.if-z-lt0.true

digits : (c : Else-z-lt0) → number c.args.z ≡ decimal c.unsigned_abs-magnitude.result
digits c = not_negative c.ranges.z c.unsigned_abs-magnitude.ensures.value c.if-z-lt0.false

pub bounds-out-at : goal.bounds-out-at
bounds-out-at c = omega (arith, ap length (minus (goal.at.bounds-out-at c).Then-z-lt0), c.requires)

pub put_decimal-requires : goal.put_decimal-requires
put_decimal-requires c = simp length-set (omega (arith, ap length (minus (goal.at.put_decimal-requires c).Then-z-lt0), c.requires))

pub returns-then-z-lt0 : goal.returns-then-z-lt0
returns-then-z-lt0 c =
    let e = minus (goal.at.returns-then-z-lt0 c).Then-z-lt0 in
    record {
      out_after = rw e (c.put_decimal.ensures.out_after ∙ sets_append (45 ∷ []) (decimal c.unsigned_abs-magnitude.result) c.args.out.now c.args.at);
      value = omega (arith, ap length e, c.put_decimal.ensures.value);
    }

pub put_decimal-requires-2 : goal.put_decimal-requires-2
put_decimal-requires-2 c = rw (← digits (goal.at.put_decimal-requires-2 c).Else-z-lt0) c.requires

pub returns : goal.returns
returns c = rw (digits (goal.at.returns c).Else-z-lt0) c.put_decimal-2.ensures
