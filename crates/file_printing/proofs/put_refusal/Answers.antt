-- `put_refusal` meets its contract: its parts are stored one after another, by `Left` of Laws, at the front of `out`, which is longer than each refusal.
use mathlib.Core.Path.{◌∙◌}
use Prim.Native.Nat.{◌≤◌}
use mathlib.Core.List.{[], ◌∷◌, ◌++◌}
use lib.ListN.{length}
use Rattle.theory_lists.specs.Rows.{front-sets}
use Rattle.base_text.specs.Numbers.{decimal}
use Rattle.file_printing.specs.Printing.{refused_line}
use Rattle.file_printing.proofs.Lines.{refused_parts, refused-length}
use Rattle.file_printing.proofs.Laws.{Left, left-all, left-more, left-none, left-room, last-room}
use native.Mathlib.Omega.{arith}
use Rattle.file_printing.proofs.put_refusal.Goals as goal
use Rattle.file_printing.proofs.put_refusal.Goals.{After-put-at, After-put_decimal-end, Start}

one : (c : After-put-at) → (Left c.args.out.now 0 (refused_line c.args.number)) c.put-at.new.out c.put-at.result (decimal c.args.number ++ (10 ∷ []))
one c =
    left-more (114 ∷ 101 ∷ 102 ∷ 117 ∷ 115 ∷ 101 ∷ 100 ∷ 32 ∷ []) (left-all (refused_parts c.args.number)) (c.put-at.ensures.out_after, c.put-at.ensures.value)

two : (c : After-put_decimal-end) → (Left c.args.out.now 0 (refused_line c.args.number)) c.put_decimal-end.new.out c.put_decimal-end.result (10 ∷ [])
two c = left-more (decimal c.args.number) ((left-more (114 ∷ 101 ∷ 102 ∷ 117 ∷ 115 ∷ 101 ∷ 100 ∷ 32 ∷ []) (left-all (refused_parts c.args.number))
    (c.put-at.ensures.out_after, c.put-at.ensures.value))) (c.put_decimal-end.ensures.out_after, c.put_decimal-end.ensures.value)

short : (c : Start) → length (refused_line c.args.number) ≤ 12
short c = refused-length c.args.number c.ranges.number.fits

pub put_decimal-end-requires : goal.put_decimal-end-requires
put_decimal-end-requires c = left-room (decimal c.args.number) (10 ∷ []) (one (goal.at.put_decimal-end-requires c).After-put-at) (omega (arith, short (goal.at.put_decimal-end-requires c).Start))

pub put-requires : goal.put-requires
put-requires c = last-room (two (goal.at.put-requires c).After-put_decimal-end) (omega (arith, short (goal.at.put-requires c).Start))

pub returns : goal.returns
returns c =
    let e = left-none (two (goal.at.returns c).After-put_decimal-end) (c.put.ensures.out_after, c.put.ensures.value) in
    record {
      out_after = e.0 ∙ front-sets (refused_line c.args.number) c.args.out.now (omega (arith, short (goal.at.returns c).Start));
      value =
          omega (arith, e.1);
    }
