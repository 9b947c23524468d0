-- `list_differences` meets its contract: no loss is more than there are levels (`losses_most`), and the days that are read are those that differ (`listing` of Laws).
use mathlib.Core.Path.{refl}
use Prim.Native.Nat.{◌≤◌}
use native.Mathlib.Omega.{arith}
use Rattle.theory_lists.specs.Sum.{at}
use Rattle.session_order.proofs.Losers.{settled_few}
use Rattle.session_changed.proofs.Laws.{losses_most, listing}
use borrow.Author.Rules.{rules}
use Rattle.session_changed.proofs.list_differences.Goals as goal
use Rattle.session_changed.proofs.list_differences.Goals.{After-list_losers-count}

pub list_losers-count-requires : goal.list_losers-count-requires
list_losers-count-requires c =
    let h = c.requires in
    (h.0, losses_most h.2 _ (search rules) c.write_losses.ensures, refl, refl, omega (arith, h.0))

-- no more days are listed than there are
few : (c : After-list_losers-count) → c.list_losers-count.result ≤ c.args.n
few c =
    omega (arith, c.list_losers-count.ensures.value, settled_few (at c.write_losses.new.losses) c.args.n)

pub read_days-requires : goal.read_days-requires
read_days-requires c =
    let h = c.requires in
    let k = few (goal.at.read_days-requires c).After-list_losers-count in
    (omega (arith, k, h.0), omega (arith, k, h.0, c.list_losers-count.auto.list), omega (arith, k, h.1))

pub returns : goal.returns
returns c =
    let h = c.requires in
    let whole =
    listing (record {
      narrowed = h.2;
      wide = search rules;
      room = h.1;
      lose = c.write_losses.ensures;
      counted = c.list_losers-count.ensures.value;
      made = c.list_losers-count.ensures.list_after;
      read = c.read_days.ensures;
    }) in
    record { value = whole.0; changed_after = whole.1 }
