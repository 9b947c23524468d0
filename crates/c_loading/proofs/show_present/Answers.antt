-- `show_present` meets its contract: each list gets the points of its cells, which are the session's (`floor-held`, `ceiling-held`).
use Prim.Native.Nat.{ℕ, ◌+◌, ◌*◌, min}
use lib.IntN.{ℤ}
use mathlib.Core.Path.{ap}
use Rattle.limits.specs.Limits.{lowest_point}
use Rattle.base_codes.specs.Code.{decoded}
use Rattle.base_little_endian.specs.Fields.{u16_at}
use Rattle.session.specs.Showing.{floor_on, ceiling_on}
use Rattle.c_lists.proofs.Laws.{points_front}
use Rattle.c_layout.specs.Layout.{decoding}
use Rattle.c_layout.proofs.Held.{floor-held, ceiling-held}
use Rattle.c_loading.proofs.show_present.Goals as goal

pub returns : goal.returns
returns c =
    let b = c.args.bytes.now in
    let n = (decoding b).days in
    let point : ℕ → ℕ → ℤ = λ place k. decoded lowest_point (min (u16_at b (place + k * 2)) 5000) in
    record {
      floors_after = points_front (floor_on (decoding b)) (point 3092) n c.args.floors.now (λ k u. ap (decoded lowest_point) (floor-held b k u)) c.requires.1
          (rw c.days_of-n.ensures at c.show_levels.ensures);
      ceilings_after = points_front (ceiling_on (decoding b)) (point 4116) n c.args.ceilings.now (λ k u. ap (decoded lowest_point) (ceiling-held b k u))
          c.requires.2 (rw c.days_of-n.ensures at c.show_levels-2.ensures);
    }
