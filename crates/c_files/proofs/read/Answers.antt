-- `read` meets its contract: a law for each return, by what the checks found (`Found`, then `Passed`) and, where all pass, by what each list got (`Stored`).
use Rattle.std.specs.Prelude.{Ok, Err}
use mathlib.Core.Path.{◌≡◌, refl, sym, ◌∙◌}
use native.Mathlib.Omega.{arith}
use borrow.Author.Rules.{rules}
use lib.ListN.{length}
use Rattle.file_format.specs.Format.{cut_count}
use Rattle.file_reading.specs.Reading.{read_as}
use Rattle.c_files.specs.Reading.{no_room_over}
use Rattle.c_files.proofs.Reading.{Found, found, Room, roomy, bad_file, too_short, Passed, Stored, read_all}
use Rattle.c_files.proofs.read.Goals as goal
use Rattle.c_files.proofs.read.Goals.{After-has_no_room, After-put_rest, After-from-count, In_ok-found, Else-has_no_room}

-- past the file's own checks
here : (c : In_ok-found) → Found c.args.file.now (read_as (Ok c.in_ok-found.found))
here c = found c.args.file.now c.in_ok-found.ensures.value refl

count : (c : After-from-count) → c.from-count.result ≡ cut_count c.args.file.now
count c = c.from-count.ensures ∙ c.u16_at.ensures

judged : (c : After-has_no_room)
    → let a = c.args in
    c.has_no_room.result
    ≡ no_room_over c.in_ok-found.found.numbers.days c.from-count.result (length a.floors.now) (length a.ceilings.now) (length a.rises.now) (length a.cuts.now)
judged c = c.has_no_room.ensures

-- past 2, by what was found before it
passed : (c : Else-has_no_room)
    → let a = c.args in
    Found a.file.now (read_as (Ok c.in_ok-found.found))
    → c.from-count.result ≡ cut_count a.file.now
    → Passed a.file.now a.floors.now a.ceilings.now a.rises.now a.cuts.now (read_as (Ok c.in_ok-found.found)) c.from-count.result
passed c f n = record { found = f; count = n; room = sym c.has_no_room.ensures ∙ c.if-has_no_room.false }

room : (c : Else-has_no_room)
    → let a = c.args in
    Room c.in_ok-found.found.numbers.days c.from-count.result (length a.floors.now) (length a.ceilings.now) (length a.rises.now) (length a.cuts.now)
room c =
    let a = c.args in
    roomy c.in_ok-found.found.numbers.days c.from-count.result (length a.floors.now) (length a.ceilings.now) (length a.rises.now) (length a.cuts.now)
    (sym c.has_no_room.ensures ∙ c.if-has_no_room.false)

-- what is stored
stored : (c : After-put_rest)
    → let a = c.args in
    Stored a.file.now a.floors.now a.ceilings.now a.rises.now a.cuts.now (read_as (Ok c.in_ok-found.found)) c.put_points.new.out c.put_points-2.new.out
    c.put_points-3.new.out c.put_rest.new.out
stored c =
    record {
      low = _;
      high = _;
      steps = _;
      low_read = c.in_ok-found.ensures.floors_after;
      high_read = c.in_ok-found.ensures.ceilings_after;
      steps-read = c.in_ok-found.ensures.rises_after;
      floors_put = c.put_points.ensures;
      ceilings_put = c.put_points-2.ensures;
      rises_put = c.put_points-3.ensures;
      cuts_put = rw c.day_offset.ensures at c.put_rest.ensures;
    }

pub returns-in_err-found : goal.returns-in_err-found
returns-in_err-found c =
    let a = c.args in
    let e : c.from_residual.result ≡ Err c.in_err-found.field-0.0 = search rules in
    let whole = bad_file a.file.now a.floors.now a.ceilings.now a.rises.now a.cuts.now _ c.in_err-found.ensures.value in
    rw e (record { value = whole.0; floors_after = whole.1.0; ceilings_after = whole.1.1.0; rises_after = whole.1.1.1.0; cuts_after = whole.1.1.1.1 })

pub u16_at-requires : goal.u16_at-requires
u16_at-requires c = omega (arith, (here (goal.at.u16_at-requires c).In_ok-found).taken.whole)

pub has_no_room-requires : goal.has_no_room-requires
has_no_room-requires c =
    let t = goal.at.has_no_room-requires c in
    let h = here t.In_ok-found in
    (omega (arith, h.days, h.taken.some), omega (arith, count t.After-from-count, h.taken.few_cuts))

pub returns-then-has_no_room : goal.returns-then-has_no_room
returns-then-has_no_room c =
    let t = goal.at.returns-then-has_no_room c in
    let a = c.args in
    let whole = too_short a.file.now a.floors.now a.ceilings.now a.rises.now a.cuts.now (here t.In_ok-found) (count t.After-from-count)
    (sym (judged t.After-has_no_room) ∙ c.if-has_no_room.true) in
    record { value = whole.0; floors_after = whole.1.0; ceilings_after = whole.1.1.0; rises_after = whole.1.1.1.0; cuts_after = whole.1.1.1.1 }

pub put_points-requires : goal.put_points-requires
put_points-requires c =
    let t = goal.at.put_points-requires c in
    let h = here t.In_ok-found in
    (omega (arith, h.days, h.taken.few), (room t.Else-has_no_room).floors-long)

pub put_points-requires-2 : goal.put_points-requires-2
put_points-requires-2 c =
    let t = goal.at.put_points-requires-2 c in
    let h = here t.In_ok-found in
    (omega (arith, h.days, h.taken.few), (room t.Else-has_no_room).ceilings-long)

pub overflow_sub-days : goal.overflow_sub-days
overflow_sub-days c =
    let h = here (goal.at.overflow_sub-days c).In_ok-found in
    omega (arith, h.days, h.taken.some)

pub put_points-requires-3 : goal.put_points-requires-3
put_points-requires-3 c =
    let t = goal.at.put_points-requires-3 c in
    let h = here t.In_ok-found in
    (omega (arith, h.days, h.taken.few), (room t.Else-has_no_room).rises-long)

pub day_offset-requires : goal.day_offset-requires
day_offset-requires c =
    let h = here (goal.at.day_offset-requires c).In_ok-found in
    omega (arith, h.days, h.taken.few)

pub put_rest-requires : goal.put_rest-requires
put_rest-requires c =
    let t = goal.at.put_rest-requires c in
    let h = here t.In_ok-found in
    let w = h.taken.whole in
    let d = h.days in
    let from = c.day_offset.ensures in
    (omega arith, omega (arith, count t.After-from-count, (room t.Else-has_no_room).cuts-long))

pub returns : goal.returns
returns c =
    let t = goal.at.returns c in
    let a = c.args in
    let p = passed t.Else-has_no_room (here t.In_ok-found) (count t.After-from-count) in
    let whole = read_all a.file.now a.floors.now a.ceilings.now a.rises.now a.cuts.now p (stored t.After-put_rest) in
    record { value = whole.0; floors_after = whole.1.0; ceilings_after = whole.1.1.0; rises_after = whole.1.1.1.0; cuts_after = whole.1.1.1.1 }
