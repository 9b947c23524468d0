-- `level` of `FromLast` meets its contract: what is read is the mirrored level.
use Rattle.std.proofs.Common.{arith, sym, ◌∙◌}
use Rattle.theory_method.proofs.Stages.{mirrored_at}
use Rattle.tighten_passes.proofs.FromLastEnd.level.Goals as goal

pub returns : goal.returns
returns c =
    let a = c.args in
    (c.mirror_level.ensures ∙ sym (mirrored_at a.n c.requires.0 a.levels.now a.k c.requires.1), omega (arith, c.mirror_level.ensures))
