-- `cut_next` meets its contract: each return knows what the checks before it found, and for any session that the arrays hold a law says what that leaves.
use mathlib.Core.Path.{◌≡◌, refl, ap, sym, ◌∙◌}
use mathlib.Core.Bool.{true, false}
use native.Mathlib.Omega.{arith}
use borrow.Author.Tests.{not-true, not-false}
use borrow.Author.Rules.{rules}
use Rattle.theory_method.specs.Filter.{Tight}
use Rattle.session.specs.Showing.{SessionInBounds}
use Rattle.session.specs.declared.Session.{Session}
use Rattle.session_cuts.specs.declared.Cut.{Cut}
use Rattle.session_cutting.specs.Cutting.{malformed}
use Rattle.session_cutting.proofs.Stages.{checked-refusal, checked-clips, cut-malformed, cut-spent, numbered_unknown, numbered-known}
use Rattle.session_steps.specs.Steps.{Holds}
use Rattle.session_steps.proofs.Laws.{Cuts, stays, ends, goes_on, held-bounds, held_tight}
use Rattle.session_steps.proofs.cut_next.Goals as goal
use Rattle.session_steps.proofs.cut_next.Goals.{After-cut_ranges, Else-spent, In-Ok}
use Rattle.refusals.proofs.Laws.{refused}
use Rattle.refusals.specs.declared.Refusal.TheVariants.{Kind, Spent}
use Rattle.tighten_filtering.specs.Boxed.{tight_as}

formed : (c : In-Ok) {s : Session} → (let a = c.args in Holds s a.step a.rises.now a.floors.now a.ceilings.now a.widths.now) → malformed s.days c.in-Some.cut ≡ 0
formed c h = sym (checked-refusal _ _ (rw c.in-Ok.is at c.check.ensures) ∙ ap (λ n. malformed n c.in-Some.cut) h.days)

unspent : (c : Else-spent) {s : Session} → (let a = c.args in Holds s a.step a.rises.now a.floors.now a.ceilings.now a.widths.now) → s.spent ≡ false
unspent c h = sym h.mark ∙ c.if-spent.false

cuts : (c : After-cut_ranges) (s : Session) → SessionInBounds s → (let a = c.args in Holds s a.step a.rises.now a.floors.now a.ceilings.now a.widths.now)
    → let r = c.cut_ranges in Cuts s c.args.asked (tight_as r.result r.new.floors r.new.ceilings)
cuts c s b h =
    record {
      cut = c.in-Some.cut;
      bounds = b;
      known = c.in-Some.is;
      formed = formed c.before.before.before.before h;
      unspent = unspent c.before.before.before h;
      tight = held_tight h c.in-Some.cut (unspent c.before.before.before h) c.cut_ranges.ensures;
    }

pub returns-in_default : goal.returns-in_default
returns-in_default c = λ s b h. stays h _ Kind (numbered_unknown s s.days refl c.in_default.is) c.refuse.ensures

pub returns-in-Err : goal.returns-in-Err
returns-in-Err c = λ s b h.
    let m = checked-refusal _ _ (rw c.in-Err.is at c.check.ensures) ∙ ap (λ n. malformed n c.in-Some.cut) h.days in
    stays h _ _ (cut-malformed s c.in-Some.cut s.days m (refused c.in-Err.refusal) ∙ numbered-known s s.days refl c.in-Some.is) c.refuse-in-Err.ensures

pub returns-then-spent : goal.returns-then-spent
returns-then-spent c = λ s b h.
    let spent : s.spent ≡ true = sym h.mark ∙ c.if-spent.true in
    stays h _ Spent (cut-spent s c.in-Some.cut s.days (formed (goal.at.returns-then-spent c).In-Ok h) (omega arith) spent ∙ numbered-known s s.days refl c.in-Some.is) c.refuse-then-spent.ensures

pub cut_ranges-requires : goal.cut_ranges-requires
cut_ranges-requires c =
    let p = c.requires in
    let h = p.holds in (
      held-bounds h p.bounds (unspent (goal.at.cut_ranges-requires c).Else-spent h),
      rw h.days (formed (goal.at.cut_ranges-requires c).In-Ok h),
      checked-clips _ _ (rw c.in-Ok.is at c.check.ensures) (omega (arith, h.days, p.bounds.present.most)) refl,
    )

pub returns-in_default-cut_ranges : goal.returns-in_default-cut_ranges
returns-in_default-cut_ranges c = λ s b h.
    ends h _ (rw c.in_default-cut_ranges.is at (cuts (goal.at.returns-in_default-cut_ranges c).After-cut_ranges s b h)) refl c.refuse-in_default-cut_ranges.ensures

pub returns : goal.returns
returns c = λ s b h.
    goes_on h _ (rw c.in-Some-cut_ranges.is at (cuts (goal.at.returns c).After-cut_ranges s b h)) refl (c.count_narrowed-count.ensures.value, c.count_narrowed-count.ensures.widths_after)
