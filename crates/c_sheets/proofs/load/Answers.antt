-- `load` meets its contract: the arrays hold what the bytes hold, and all widths are left over zeros.
use native.Mathlib.Omega.{arith}
use Rattle.c_layout.proofs.Held.{days_few}
use Rattle.c_sheets.proofs.Laws.{loaded_holds}
use Rattle.c_sheets.proofs.load.Goals as goal

pub count_narrowed-requires : goal.count_narrowed-requires
count_narrowed-requires c = omega (arith, c.days_of-days.ensures, days_few c.args.session.now)

pub returns : goal.returns
returns c =
    loaded_holds
    (record {
      rises = c.load_present.ensures.rises_after;
      floors = c.load_present.ensures.floors_after;
      ceilings = c.load_present.ensures.ceilings_after;
      days = c.days_of-days.ensures;
      first = c.first_of-first.ensures;
      lowest = c.total_of-total.ensures.0;
      highest = c.total_of-total.ensures.1;
    })
    c.is_spent-spent.ensures
    c.requires.4
    c.count_narrowed.ensures.widths_after
