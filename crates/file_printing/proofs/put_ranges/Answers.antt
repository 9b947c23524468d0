-- `put_ranges` meets its contract: the total's line, then the days' lines, by what is shown (`Showed`) and what is left to store (`Left`).
use Prim.Native.Nat.{ℕ}
use mathlib.Core.Path.{◌≡◌, ◌∙◌}
use mathlib.Core.List.{List}
use mir.Syntax.{w32}
use mir.Val.{to_z, of_z}
use mir.Facts.{to_z-of_z}
use Rattle.theory_lists.specs.Rows.{rows, rows_same, front-sets}
use Rattle.base_codes.specs.Code.{on}
use Rattle.session.specs.Showing.{floor_on, ceiling_on, total_floor, total_ceiling, Shown, shown_as}
use Rattle.session.specs.declared.Shown as Code
use Rattle.session.specs.declared.Session.{Session}
use Rattle.file_printing.specs.Printing.{day_line, total_line, ranges_text}
use Rattle.file_printing.proofs.Lines.{ranges_parts, total_line_lem, day_line_lem, ranges-fit}
use Rattle.file_printing.proofs.Laws.{Left, left-all, left-more, left-none}
use lib.IntN.{ℤ, pos}
use lib.ListN.{length-replicate}
use Rattle.file_printing.proofs.Laws.{Showed, showed, is_shown}
use native.Mathlib.Omega.{arith}
use borrow.Author.Rules.{rules}
use Rattle.file_printing.proofs.put_ranges.Goals as goal
use Rattle.file_printing.proofs.put_ranges.Goals.{After-put_total-at, After-show, After-unwrap-shown}

shows : (c : After-show) → Showed c.args.session (shown_as c.show.result) c.show.new.floors c.show.new.ceilings
shows c =
    let long = length-replicate 512 (pos 0) in
    let e = c.show.ensures in
    showed (record { bounds = c.requires; floors-long = long; ceilings-long = long; answer = e.value; floors = e.floors_after; ceilings = e.ceilings_after })

-- the total's range as it is passed on
record Passed (s : Session) (r : Code.Shown) : Type 0 where
  least : to_z w32 (of_z w32 r.lowest) ≡ total_floor s
  most : to_z w32 (of_z w32 r.highest) ≡ total_ceiling s

passed : (c : After-unwrap-shown) → Showed c.args.session (shown_as c.show.result) c.show.new.floors c.show.new.ceilings → Passed c.args.session c.unwrap-shown.result
passed c h =
    let s = rw c.unwrap-shown.ensures at h in
    record { least = to_z-of_z {w = w32} (search rules) ∙ s.least; most = to_z-of_z {w = w32} (search rules) ∙ s.most }

lines : Session → List ℕ
lines s = rows (λ k. day_line k (floor_on s k) (ceiling_on s k)) s.days

one : (c : After-put_total-at) → Passed c.args.session c.unwrap-shown.result
    → Left c.args.out.now 0 (ranges_text c.args.session) c.put_total-at.new.out c.put_total-at.result (lines c.args.session)
unfolding lines
one c p =
    let s = c.args.session in
    let made = rw (p.least, p.most) at c.put_total-at.ensures.out_after in
    let ends = rw (p.least, p.most) at c.put_total-at.ensures.value in
    left-more (total_line (total_floor s) (total_ceiling s)) (left-all (ranges_parts s)) (made, omega (arith, ends))

same : {s : Session} {r : Shown} {floors ceilings : List ℤ} → Showed s r floors ceilings → rows (λ k. day_line k (on floors k) (on ceilings k)) s.days ≡ lines s
unfolding lines
same {s} h = rows_same _ (λ k. day_line k (floor_on s k) (ceiling_on s k)) s.days h.lines

-- ---- there is room for each line, and the days' lines end the text

pub unwrap-shown-requires : goal.unwrap-shown-requires
unwrap-shown-requires c = is_shown _ (shows (goal.at.unwrap-shown-requires c).After-show)

pub put_total-at-requires : goal.put_total-at-requires
put_total-at-requires c =
    let t = goal.at.put_total-at-requires c in
    let p = passed t.After-unwrap-shown (shows t.After-show) in rw (p.least, p.most) (omega (arith, total_line_lem c.requires))

pub put_days-requires : goal.put_days-requires
put_days-requires c =
    let t = goal.at.put_days-requires c in
    let bounds = c.requires in
    let p = passed t.After-unwrap-shown (shows t.After-show) in
    let ends = rw (p.least, p.most) at c.put_total-at.ensures.value in (
      bounds.present.most,
      (λ k h. rw ((shows t.After-show).lines k h) (day_line_lem bounds k h)),
      omega (arith, (one t.After-put_total-at p).kept, ends, total_line_lem bounds, bounds.present.most),
    )

pub returns : goal.returns
returns c =
    let t = goal.at.returns c in
    let p = passed t.After-unwrap-shown (shows t.After-show) in
    let q = same (shows t.After-show) in
    let e = left-none (one t.After-put_total-at p) (rw q at c.put_days.ensures.out_after, rw q at c.put_days.ensures.value) in
    record { out_after = e.0 ∙ front-sets (ranges_text c.args.session) c.args.out.now (omega (arith, ranges-fit c.requires)); value = omega (arith, e.1) }
