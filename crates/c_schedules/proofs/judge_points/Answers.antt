-- `judge_points` meets its contract: what is loaded is the session's (`Loaded`), and the codes are those of the list's points (`points_judged`).
use native.Mathlib.Omega.{arith}
use borrow.Author.Rules.{rules}
use Rattle.c_layout.specs.Layout.{decoding}
use Rattle.c_schedules.proofs.Laws.{Loaded, loads, points_judged}
use Rattle.c_schedules.proofs.judge_points.Goals as goal
use Rattle.c_schedules.proofs.judge_points.Goals.{After-load_present}

loaded : (c : After-load_present) → Loaded (decoding c.args.session.now) c.days_of-n.result c.first_of-first.result c.load_present.new.rises c.load_present.new.floors c.load_present.new.ceilings
loaded c = loads c.args.session.now c.days_of-n.ensures c.first_of-first.ensures (c.load_present.ensures.rises_after, (c.load_present.ensures.floors_after, c.load_present.ensures.ceilings_after))

pub code_points-requires : goal.code_points-requires
code_points-requires c =
    let l = loaded (goal.at.code_points-requires c).After-load_present in
    (search rules, omega (arith, l.days, l.bounds.present.most), omega (arith, l.days, c.requires.1))

pub judge_codes-requires : goal.judge_codes-requires
judge_codes-requires c =
    let l = loaded (goal.at.judge_codes-requires c).After-load_present in
    let p = l.bounds.present in
    (omega (arith, l.days, l.first, p.counts), omega (arith, l.days, p.most), omega (arith, c.total_of-total.ensures.0, p.lowest), omega (arith, c.total_of-total.ensures.1, p.highest))

pub returns : goal.returns
returns c =
    let e = c.code_points.ensures in
    points_judged (loaded (goal.at.returns c).After-load_present) c.total_of-total.ensures _ e.n_value e.out_after c.judge_codes.ensures
