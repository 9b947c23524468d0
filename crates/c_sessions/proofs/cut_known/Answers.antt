-- `cut_known` meets its contract: a law for each refusal, in the order of document 01's checks, and `Cuttable` where none refuses.
use mathlib.Core.Path.{◌≡◌, refl, ap, sym, ◌∙◌}
use mathlib.Core.Bool.{false}
use Prim.Native.Nat.{◌/◌, ◌≤◌}
use native.Mathlib.Omega.{arith}
use lib.ListN.{length}
use borrow.Author.Rules.{rules}
use Rattle.std.specs.Prelude.{Err}
use Rattle.refusals.proofs.Laws.{refused}
use Rattle.session_cutting.specs.Cutting.{malformed}
use Rattle.session_cutting.proofs.Stages.{checked-refusal, checked-clips, cut-malformed, cut_short, cut-spent, cut-taken}
use Rattle.c_layout.specs.Layout.{decoding}
use Rattle.c_layout.proofs.Held.{days_few}
use Rattle.c_sessions.specs.Stages.{made_of}
use Rattle.c_sessions.proofs.Cutting.{cuts-same, cuts-refused, malformed-not-eight}
use Rattle.c_sessions.proofs.cut_known.Goals as goal
use Rattle.c_sessions.proofs.cut_known.Goals.{Else-changed-days, Else-is_spent, In_ok-value}

pub returns-in_err-value : goal.returns-in_err-value
returns-in_err-value c =
    let e : c.from_residual.result ≡ Err c.in_err-value.field-0.0 = search rules in
    let m = checked-refusal _ _ c.in_err-value.ensures ∙ ap (λ n. malformed n c.args.cut) c.days_of-days.ensures in
    let apart = refused c.in_err-value.field-0.0 in
    let whole = cuts-same _ _ (cut-malformed (decoding c.args.session.now) c.args.cut _ m apart)
    (cuts-refused _ _ _ apart (λ z. malformed-not-eight _ c.args.cut (sym m ∙ z)) refl) in
    record { value = rw e whole.0; session_after = whole.1.0; changed_after = whole.1.1 }

formed : (c : In_ok-value) → malformed (decoding c.args.session.now).days c.args.cut ≡ 0
formed c = sym (checked-refusal _ _ c.in_ok-value.ensures ∙ ap (λ n. malformed n c.args.cut) c.days_of-days.ensures)

roomy : (c : Else-changed-days) → (decoding c.args.session.now).days ≤ length c.args.changed.now / 2
roomy c = omega (arith, c.if-changed-days.false, c.days_of-days.ensures)

pub returns-then-changed-days : goal.returns-then-changed-days
returns-then-changed-days c =
    let whole = cuts-same _ _ (cut_short _ _ _ (formed (goal.at.returns-then-changed-days c).In_ok-value) (omega (arith, c.if-changed-days.true, c.days_of-days.ensures)))
    (cuts-refused _ _ _ (λ z. absurd (omega arith)) (λ z. absurd (omega arith)) refl) in
    record { value = whole.0; session_after = whole.1.0; changed_after = whole.1.1 }

pub returns-then-is_spent : goal.returns-then-is_spent
returns-then-is_spent c =
    let at = goal.at.returns-then-is_spent c in
    let whole = cuts-same _ _ (cut-spent _ _ _ (formed at.In_ok-value) (roomy at.Else-changed-days) (sym c.is_spent.ensures ∙ c.if-is_spent.true))
    (cuts-refused _ _ _ (λ z. absurd (omega arith)) (λ z. absurd (omega arith)) refl) in
    record { value = whole.0; session_after = whole.1.0; changed_after = whole.1.1 }

unspent : (c : Else-is_spent) → (decoding c.args.session.now).spent ≡ false
unspent c = sym c.is_spent.ensures ∙ c.if-is_spent.false

pub cut_present-requires : goal.cut_present-requires
cut_present-requires c =
    let at = goal.at.cut_present-requires c in
    record {
      whole = c.requires;
      formed = formed at.In_ok-value;
      clips = checked-clips _ _ c.in_ok-value.ensures (omega (arith, c.days_of-days.ensures, days_few c.args.session.now)) refl;
      roomy = omega (arith, roomy at.Else-changed-days);
      unspent = unspent at.Else-is_spent;
    }

pub returns : goal.returns
unfolding made_of
returns c =
    let at = goal.at.returns c in
    let e = c.cut_present.ensures in
    let whole = cuts-same _ _ (cut-taken _ _ _ (formed at.In_ok-value) (roomy at.Else-changed-days) (unspent at.Else-is_spent)) (e.value, (e.session_after, e.changed_after)) in
    record { value = whole.0; session_after = whole.1.0; changed_after = whole.1.1 }
