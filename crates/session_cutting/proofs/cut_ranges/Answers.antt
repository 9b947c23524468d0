-- `cut_ranges` meets its contract: the arrays are the clipped ranges, which are in bounds, and then the tightened ones.
use mathlib.Core.Path.{◌≡◌, ap, ◌∙◌}
use Rattle.theory_method.specs.Filter.{Tight, tightened}
use Rattle.session.specs.Showing.{box_of}
use Rattle.session.specs.declared.Ranges.{Ranges}
use Rattle.session_cutting.specs.Cutting.{clipped}
use Rattle.session_cutting.proofs.Stages.{clips-bounds}
use Rattle.session_cutting.proofs.cut_ranges.Goals as goal
use Rattle.session_cutting.proofs.cut_ranges.Goals.{After-clip-total, Start}

is-clipped : (c : After-clip-total) → (record {
  floors = c.clip-total.new.floors;
  ceilings = c.clip-total.new.ceilings;
  lowest =
      c.clip-total.result.lowest;
  highest = c.clip-total.result.highest;
}) ≡ clipped
    ((let a = c.args in record { floors = a.floors.now; ceilings = a.ceilings.now; lowest = a.numbers.lowest; highest = a.numbers.highest }))
    c.args.cut
is-clipped c = c.clip-total.ensures

pub tighten-requires : goal.tighten-requires
tighten-requires c =
    clips-bounds ((let a = c.args in record {
      floors = a.floors.now;
      ceilings = a.ceilings.now;
      lowest = a.numbers.lowest;
      highest =
          a.numbers.highest;
    })) c.args.cut (is-clipped (goal.at.tighten-requires c).After-clip-total) c.requires.0 c.requires.1

pub returns : goal.returns
returns c =
    let a = c.args in
    let tight : Ranges → Tight = λ r. tightened (box_of a.rises.now a.numbers.days a.numbers.first r) in
    ◌∙◌ {b = tight ((record {
      floors = c.clip-total.new.floors;
      ceilings = c.clip-total.new.ceilings;
      lowest = c.clip-total.result.lowest;
      highest =
          c.clip-total.result.highest;
    }))} c.tighten.ensures (ap tight (is-clipped (goal.at.returns c).After-clip-total))
