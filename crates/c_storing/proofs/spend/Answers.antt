-- `spend` meets its contract: the patch is stored part by part, and the opened ranges are read where nothing was stored (`Restored`).
use mathlib.Core.Path.{◌∙◌}
use Rattle.c_layout.proofs.Held.{opened-held}
use Rattle.c_storing.proofs.Patch.{restored_patched}
use Rattle.c_storing.proofs.spend.Goals as goal

pub returns : goal.returns
returns c =
    let held = opened-held c.args.bytes.now in
    let opened = c.totals-opened.ensures in
    let n = c.days_of-n.ensures in
    restored_patched (record {
      second = c.put_totals.new.out;
      third = c.copy_levels.new.bytes;
      before = record {
        first = c.put_u16.new.out;
        marked = rw c.from.ensures at c.put_u16.ensures;
        summed = rw (opened.0 ∙ held.0, opened.1 ∙ held.1) at c.put_totals.ensures;
      };
      floors = rw n at c.copy_levels.ensures;
      ceilings = rw n at c.copy_levels-2.ensures;
    })
