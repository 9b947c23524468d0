-- `drop_last` meets its contract: what it reads is the day before the last.
use Prim.Native.Nat.{◌-◌}
use native.Mathlib.Omega.{arith}
use Rattle.tighten_passes.proofs.Laws.{rise_seen, top_fits, dropped, end_most, end_least}
use Rattle.tighten_passes.proofs.Pass.drop_last.Goals as goal

pub shift_before-end-requires : goal.shift_before-end-requires
shift_before-end-requires g c =
    (end_most c.requires.sight.carried c.requires.sticking, c.rise.ensures.1, omega (arith, end_least c.requires.sight.carried c.requires.sticking))

pub overflow_sub-result-2 : goal.overflow_sub-result-2
overflow_sub-result-2 g c = top_fits c.requires.sight.carried c.requires.sticking

-- the rise read is that of the days in view
pub returns-clause-fact : goal.returns-clause-fact
returns-clause-fact g c =
    let p = c.args.self.now in
    let s = c.requires.sticking in
    let rises = rise_seen g.E.End.back p.rises.now p.n p.days (c.args.w.past - 1 - 1) c.requires.sight.carried.most (omega (arith, s.more, s.window.span.inside)) c.rise.ensures.0 in
    dropped c.requires.sight.carried s rises c.shift_before-end.ensures.0 c.level.ensures.0
