-- `make_cuts` meets its contract: the arrays hold the session, then what all cuts leave of it (`Made`), and each return knows whether it was spent, or is.
use mathlib.Core.Path.{◌≡◌, sym, ◌∙◌}
use native.Mathlib.Omega.{arith}
use Rattle.c_layout.specs.Layout.{decoding}
use Rattle.c_layout.proofs.Inverse.{decoding_in_bounds}
use Rattle.c_sheets.specs.Stages.{Made}
use Rattle.c_sheets.proofs.Laws.{was_spent, is_spent, is_open, left-bounds, left-days}
use Rattle.c_sheets.proofs.make_cuts.Goals as goal
use Rattle.c_sheets.proofs.make_cuts.Goals.{After-cut_all-end, After-load-start}

pub cut_all-end-requires : goal.cut_all-end-requires
cut_all-end-requires c =
    (record { session = decoding c.args.session.now; bounds = decoding_in_bounds c.args.session.now; holds = c.load-start.ensures }, c.requires.roomy)

made : (c : After-cut_all-end)
    → let a = c.args in
    let k = c.cut_all-end.new in
    Made (decoding a.session.now) a.cuts.now a.count a.answers.now c.cut_all-end.result c.load-start.new.rises k.floors k.ceilings k.widths k.answers
made c =
    let b = c.args.session.now in
    c.cut_all-end.ensures (decoding b) (decoding_in_bounds b) c.load-start.ensures

-- it was spent, or not
marked : (c : After-load-start) → c.load-start.result.spent ≡ (decoding c.args.session.now).spent
marked c = c.load-start.ensures.mark

pub returns-then-start : goal.returns-then-start
returns-then-start c =
    let at = goal.at.returns-then-start c in
    was_spent c.args.session.now (made at.After-cut_all-end) _ c.requires.roomy (sym (marked at.After-load-start) ∙ c.if-start.true)

pub spend-requires : goal.spend-requires
spend-requires c = c.requires.whole

pub returns-then-end : goal.returns-then-end
returns-then-end c =
    let at = goal.at.returns-then-end c in
    let e = sym (marked at.After-load-start) ∙ c.if-start.false in
    is_spent c.args.session.now (made at.After-cut_all-end) e _ c.requires.roomy c.if-end.true c.spend.ensures

pub store_cut-requires : goal.store_cut-requires
store_cut-requires c =
    let p = c.requires in
    let at = goal.at.store_cut-requires c in
    let e = sym (marked at.After-load-start) ∙ c.if-start.false in
    let b = left-bounds c.args.session.now (made at.After-cut_all-end) e c.if-end.false in
    let d = left-days c.args.session.now (made at.After-cut_all-end) e c.if-end.false in
    record {
      losses_len = (b.rises, b.floors, b.ceilings);
      lowest_le_highest_total_code = (b.lowest, b.highest, p.whole, d, omega (arith, d, p.listed));
    }

pub returns : goal.returns
returns c =
    let at = goal.at.returns c in
    let k = c.store_cut.ensures in
    let e = sym (marked at.After-load-start) ∙ c.if-start.false in
    is_open c.args.session.now (made at.After-cut_all-end) e c.if-end.false _ c.requires.roomy (k.value, (k.changed_after, k.out_after))
