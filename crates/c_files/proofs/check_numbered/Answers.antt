-- `check_numbered` meets its contract: a cut of an unknown kind is 12, and a known one is refused as `malformed` says.
use mathlib.Core.Path.{◌≡◌, refl, ap, ◌∙◌}
use Prim.Native.Nat.{ℕ}
use borrow.Author.Rules.{rules}
use Rattle.std.specs.Prelude.{Option, Some, None, Result, Ok, Err, ok_or}
use Rattle.refusals.specs.declared.Refusal.{Refusal}
use Rattle.refusals.specs.declared.Refusal.TheVariants.{Kind}
use Rattle.refusals.specs.Number.{refusal_number, refusal_of}
use Rattle.session_cuts.specs.declared.Cut.{Cut}
use Rattle.session_cutting.specs.Stages.{checked_as}
use Rattle.session_cutting.proofs.Stages.{checked-refusal}
use Rattle.c_files.specs.Writing.{numbered_refusal}
use Rattle.c_files.proofs.check_numbered.Goals as goal

unknown : (n : ℕ) (o : Option Cut) {r : Refusal} → Err r ≡ ok_or o Kind → refusal_number r ≡ numbered_refusal n o
unknown n None e = ap (refusal_of {A = Cut}) e
unknown n (Some cut) e = absurd (cc)

known : (o : Option Cut) {cut : Cut} → Ok cut ≡ ok_or o Kind → o ≡ Some cut
known None e = absurd (cc)
known (Some cut) e = cc

told : (r : Result ℕ Refusal) → refusal_of r ≡ (checked_as r).refusal
told (Ok value) = refl
told (Err refusal) = refl

pub returns-in_err-cut : goal.returns-in_err-cut
returns-in_err-cut c =
    let e : c.from_residual.result ≡ Err c.in_err-cut.field-0.0 = search rules in
    rw e (unknown _ c.args.numbered c.in_err-cut.ensures.value)

pub returns : goal.returns
returns c = rw (known c.args.numbered c.in_ok-cut.ensures.value) (told c.check.result ∙ checked-refusal _ _ c.check.ensures)
