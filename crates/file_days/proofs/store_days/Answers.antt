use Prim.Native.Nat.{◌-◌}
use mathlib.Core.Path.{◌≡◌, refl, ap, ◌∙◌}
use native.Mathlib.Omega.{arith}
use borrow.Author.Rules.{rules}
use mir.Syntax.{w16}
use mir.Facts.{to_z-of_z}
use Rattle.theory_lists.specs.Filled.{filled_none, filled_more, filled-all}
use Rattle.file_format.specs.Format.{day_offset}
use Rattle.file_days.specs.Days.{day_at}
use Rattle.file_days.specs.declared.Day.{Day}
use Rattle.file_days.specs.declared.DayReader.{DayReader}
use Rattle.file_days.proofs.Laws.{last_stored}
use Rattle.file_days.proofs.store_days.Goals as goal
use Rattle.file_days.proofs.store_days.Goals.{After-next, After-next-day}

pub loop-k-init : goal.loop-k-init
loop-k-init c = (refl, refl, filled_none, filled_none, filled_none)

-- day k
read : (c : After-next-day) → c.next-day.result ≡ day_at c.args.bytes.now (day_offset c.loop-k.k)
read c = let inv = c.loop-k.invariant in c.next-day.ensures.value ∙ (λ i. day_at (inv.0 i).now (inv.1 i))

pub loop-k-preserved : goal.loop-k-preserved
loop-k-preserved c =
    let inv = c.loop-k.invariant in
    let more = c.loop-k-test.true in
    let e = read (goal.at.loop-k-preserved c).After-next-day in
    let moved = c.next-day.ensures.moved in (
      ap (λ (r : DayReader). r.bytes) moved ∙ inv.0,
      omega (arith, ap (λ (r : DayReader). r.at) moved, inv.1),
      rw c.store_range.ensures.floors_after (filled_more inv.2 more (ap (λ (d : Day). d.floor) e)),
      rw c.store_range.ensures.ceilings_after (filled_more inv.3 more (ap (λ (d : Day). d.ceiling) e)),
      filled_more inv.4 more (to_z-of_z {w = w16} (search rules) ∙ ap (λ (d : Day). d.rise) e),
    )

-- the last day
last : (c : After-next) → let a = c.args in c.next.result ≡ day_at a.bytes.now (day_offset (a.days - 1))
last c =
    let inv = c.loop-k.invariant in
    let begins : c.loop-k.reader.at ≡ day_offset (c.args.days - 1) = omega (arith, inv.1, inv.2.most, c.loop-k-test.false) in
    c.next.ensures.value ∙ (λ i. day_at (inv.0 i).now (begins i))

pub returns : goal.returns
returns c =
    let inv = c.loop-k.invariant in
    let all = c.loop-k-test.false in
    let e = last (goal.at.returns c).After-next in
    let stored = c.store_range-2.ensures in
    record {
      floors_after = last_stored (record { some = omega arith; filled = inv.2; all = all; value = ap (λ (d : Day). d.floor) e; stored = stored.floors_after });
      ceilings_after = last_stored (record { some = omega arith; filled = inv.3; all = all; value = ap (λ (d : Day). d.ceiling) e; stored = stored.ceilings_after });
      rises_after = filled-all inv.4 all;
    }
