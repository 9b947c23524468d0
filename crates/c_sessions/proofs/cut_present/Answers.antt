-- `cut_present` meets its contract: the arrays hold what the bytes hold (`Loaded`), then what the cut makes of it, and each return knows whether there is a
-- schedule and what it stored.
use mathlib.Core.Path.{◌≡◌, refl, ap, ◌∙◌}
use native.Mathlib.Omega.{arith}
use lib.ListN.{length}
use Rattle.tighten_filtering.specs.Boxed.{tight_as}
use Rattle.session_cutting.specs.Cutting.{clipped, retightened}
use Rattle.c_layout.specs.Layout.{decoding}
use Rattle.c_sessions.proofs.Cutting.{Loaded, loaded_bounds, loaded_tight, made_none, made_found, made-bounds}
use Rattle.c_sessions.proofs.cut_present.Goals as goal
use Rattle.c_sessions.proofs.cut_present.Goals.{After-cut_ranges-total, After-total_of-total}

loaded : (c : After-total_of-total) → let n = c.load_present.new in let t = c.total_of-total.result in
    Loaded c.args.session.now n.floors n.ceilings n.rises (record { days = c.days_of-days.result; first = c.first_of-first.result; lowest = t.lowest; highest = t.highest })
loaded c =
    record {
      rises = c.load_present.ensures.rises_after;
      floors = c.load_present.ensures.floors_after;
      ceilings = c.load_present.ensures.ceilings_after;
      days = c.days_of-days.ensures;
      first = c.first_of-first.ensures;
      lowest = c.total_of-total.ensures.0;
      highest = c.total_of-total.ensures.1;
    }

is-tight : (c : After-cut_ranges-total) → let n = c.load_present.new in let t = c.total_of-total.result in
    Loaded c.args.session.now n.floors n.ceilings n.rises (record { days = c.days_of-days.result; first = c.first_of-first.result; lowest = t.lowest; highest = t.highest }) →
    let r = c.cut_ranges-total in tight_as r.result r.new.floors r.new.ceilings ≡ retightened (decoding c.args.session.now) (clipped (decoding c.args.session.now).present c.args.cut)
is-tight c l = loaded_tight l c.args.cut c.cut_ranges-total.ensures

pub cut_ranges-total-requires : goal.cut_ranges-total-requires
cut_ranges-total-requires c =
    let p = c.requires in
    let l = loaded (goal.at.cut_ranges-total-requires c).After-total_of-total in
    (loaded_bounds l, rw l.days p.formed, p.clips)

pub returns-in_default : goal.returns-in_default
returns-in_default c =
    let at = goal.at.returns-in_default c in
    let t = rw c.in_default.is at (is-tight at.After-cut_ranges-total (loaded at.After-total_of-total)) in
    let whole = made_none c.args.session.now c.args.cut t refl c.args.changed.now refl c.spend.ensures in
    record { value = whole.0; session_after = whole.1.0; changed_after = whole.1.1 }

pub store_cut-count-requires : goal.store_cut-count-requires
store_cut-count-requires c =
    let p = c.requires in
    let at = goal.at.store_cut-count-requires c in
    let t = rw c.in-Some.is at (is-tight at.After-cut_ranges-total (loaded at.After-total_of-total)) in
    let b = made-bounds c.args.session.now c.args.cut t p.formed refl in
    let l = loaded at.After-total_of-total in
    record {
      losses_len = (ap length l.rises ∙ b.rises, b.floors, b.ceilings);
      lowest_le_highest_total_code = (b.lowest, b.highest, p.whole, l.days, omega (arith, l.days, p.roomy));
    }

pub returns : goal.returns
returns c =
    let at = goal.at.returns c in
    let t = rw c.in-Some.is at (is-tight at.After-cut_ranges-total (loaded at.After-total_of-total)) in
    let e = c.store_cut-count.ensures in
    let whole = made_found c.args.session.now c.args.cut t c.requires.formed refl c.args.changed.now
    (record { days = (loaded at.After-total_of-total).days; unspent = c.requires.unspent; counted = e.value; listed = e.changed_after; stored = e.out_after }) in
    record { value = whole.0; session_after = whole.1.0; changed_after = whole.1.1 }
