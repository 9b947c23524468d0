-- `check_lengths` meets its contract: the tests that were passed decide each return, by what `lengths_refusal` unfolds to.
use Prim.Native.Nat.{◌/◌, ◌%◌}
use mathlib.Core.Bool.{false}
use mathlib.Core.Path.{◌≡◌, refl}
use lib.Dec.{ltb}
use borrow.Author.Rules.{rules}
use borrow.Author.Tests.{eq-eqb, ne_eqb, lt-ltb, le-ltb}
use Rattle.std.specs.Prelude.{Err}
use Rattle.refusals.proofs.Laws.{refused}
use Rattle.c_files.specs.Writing.{lengths_refusal}
use Rattle.c_files.proofs.check_lengths.Goals as goal
use Rattle.c_files.proofs.check_lengths.Goals.{Else-cuts-gt-MOST_CUTS}

-- what the first test found
few : (c : Else-cuts-gt-MOST_CUTS) → ltb 512 (c.args.cuts / 8) ≡ false
few c = le-ltb _ _ c.if-cuts-gt-MOST_CUTS.false

pub returns-then-cuts-gt-MOST_CUTS : goal.returns-then-cuts-gt-MOST_CUTS
unfolding lengths_refusal
returns-then-cuts-gt-MOST_CUTS c = simp (lt-ltb _ _ c.if-cuts-gt-MOST_CUTS.true)

pub returns-in_err-check_lengths : goal.returns-in_err-check_lengths
unfolding lengths_refusal
returns-in_err-check_lengths c =
    let e : c.from_residual.result ≡ Err c.in_err-check_lengths.field-0.0 = search rules in
    rw (e, few (goal.at.returns-in_err-check_lengths c).Else-cuts-gt-MOST_CUTS, ← c.in_err-check_lengths.ensures, ne_eqb _ 0 (refused c.in_err-check_lengths.field-0.0)) refl

pub returns-then-cuts-ne0 : goal.returns-then-cuts-ne0
unfolding lengths_refusal
returns-then-cuts-ne0 c =
    rw (few (goal.at.returns-then-cuts-ne0 c).Else-cuts-gt-MOST_CUTS, ← c.in_ok-check_lengths.ensures, ne_eqb (c.args.cuts % 8) 0 c.if-cuts-ne0.true) refl

pub returns : goal.returns
unfolding lengths_refusal
returns c = rw (few (goal.at.returns c).Else-cuts-gt-MOST_CUTS, ← c.in_ok-check_lengths.ensures, eq-eqb _ _ c.if-cuts-ne0.false) refl
