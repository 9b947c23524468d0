-- `load_present` meets its contract: the cells of rises, of floors and of ceilings, each over zeros (`rises-held`, `floors-held`, `ceilings-held`).
use mathlib.Core.Path.{◌∙◌}
use Rattle.c_layout.proofs.Held.{loaded, rises-held, floors-held, ceilings-held}
use Rattle.c_loading.proofs.load_present.Goals as goal

pub returns : goal.returns
returns c =
    let n = c.days_of-n.ensures in
    let b = c.args.bytes.now in record {
      rises_after = loaded b 4000 20 c.cells.ensures c.requires.1 n ∙ rises-held b;
      floors_after = loaded b 5000 3092 c.cells-2.ensures c.requires.2 n ∙ floors-held b;
      ceilings_after = loaded b 5000 4116 c.cells-3.ensures c.requires.3 n ∙ ceilings-held b;
    }
