-- `store_cut` meets its contract: the patch is stored part by part (`Celled`), and the mark and the total reach no day's cells, so that what each day lost is by
-- the ranges of the bytes as they were (`losers-held`).
use Prim.Native.Nat.{◌≤◌}
use mathlib.Core.Path.{refl}
use mathlib.Core.Bool.{false}
use native.Mathlib.Omega.{arith}
use lib.ListN.{length}
use lib.Seq.{sets}
use Rattle.theory_lists.specs.Sum.{at}
use Rattle.c_lists.specs.Lists.{cell_bytes}
use Rattle.c_layout.proofs.Held.{days_few}
use Rattle.c_storing.proofs.Patch.{Summed, celled_patched, losses_most, losers-held}
use Rattle.c_storing.proofs.store_cut.Goals as goal
use Rattle.c_storing.proofs.store_cut.Goals.{After-put_totals, Start}

summed : (c : After-put_totals) → let a = c.args in Summed a.out.now false a.numbers.lowest a.numbers.highest c.put_totals.new.out
summed c = record { first = c.put_u16.new.out; marked = rw c.from.ensures at c.put_u16.ensures; summed = c.put_totals.ensures }

few : (c : Start) → c.args.numbers.days ≤ 512
few c = omega (arith, c.requires.lowest_le_highest_total_code.3, days_few c.args.out.now)

room : (c : Start) → c.args.numbers.days ≤ length c.args.losses.now
room c = omega (arith, c.requires.lowest_le_highest_total_code.3, days_few c.args.out.now, c.requires.losses_len.0)

pub list_losers-requires : goal.list_losers-requires
list_losers-requires c =
    let a = c.args in
    let here = goal.at.list_losers-requires c in (
      few here.Start,
      losses_most (summed here.After-put_totals) a.floors.now a.ceilings.now a.losses.now c.store_days.ensures.losses_after (room here.Start),
      c.requires.losses_len.1,
      c.requires.losses_len.2,
      c.requires.lowest_le_highest_total_code.4,
    )

pub returns : goal.returns
returns c =
    let a = c.args in
    let here = goal.at.returns c in
    let before = summed here.After-put_totals in
    let days = losers-held before a.floors.now a.ceilings.now a.losses.now c.store_days.ensures.losses_after (room here.Start) c.requires.lowest_le_highest_total_code.3 in
    let second = c.put_totals.new.out in
    let third = sets second 3092 (cell_bytes (at a.floors.now) a.numbers.days) in
    record {
      value = cc;
      changed_after = cc;
      out_after = celled_patched {f = at a.floors.now} {g = at a.ceilings.now} _
          (record { second = second; third = third; before = before; floors = refl; ceilings = c.store_days.ensures.out_after }) (λ k u. refl) (λ k u. refl);
    }
