-- `write` meets its contract: a law for each return, by what the checks found (`Sized`, `Opens`, then `Checked`) and, where all pass, by what the output got
-- (`Stored`). Each array holds its list's points (`Held`), to be opened and to be written.
use Prim.Native.Nat.{◌-◌, ◌≤◌}
use mathlib.Core.Path.{◌≡◌, sym}
use native.Mathlib.Omega.{arith}
use borrow.Author.Rules.{rules}
use Rattle.std.specs.Prelude.{Err}
use Rattle.refusals.specs.Number.{refusal_of}
use Rattle.refusals.proofs.Laws.{number_said, passed}
use lib.ListN.{length}
use Rattle.base_little_endian.specs.Fields.{Bytes}
use Rattle.session.specs.Opening.{early_opening}
use Rattle.session.proofs.Entered.{entered}
use Rattle.c_lists.specs.Profiles.{ByteProfile, byte_profile, byte_length_refusal, profile_of}
use Rattle.c_lists.proofs.Laws.{Held, held}
use Rattle.c_files.specs.Writing.{lengths_refusal}
use Rattle.c_files.proofs.Writing.{Sized, sized, Opens, Checked, Stored, bad_lengths, bad_profile, bad_cut_lem, too_short, written}
use Rattle.c_files.proofs.write.Goals as goal
use Rattle.c_files.proofs.write.Goals.{After-check_early, After-points, After-points-2, After-points-3, After-put_rest, In_ok-check_cuts, In_ok-check_lengths, In_ok-check_early}

-- past 1 and 2
right-lengths : (c : In_ok-check_lengths)
    → let a = c.args in
    lengths_refusal (byte_length_refusal (byte_profile a.numbers a.floors.now a.ceilings.now a.rises.now)) (length a.cuts.now) ≡ 0
right-lengths c = sym c.in_ok-check_lengths.ensures

sizes : (c : In_ok-check_lengths) → let a = c.args in Sized (byte_profile a.numbers a.floors.now a.ceilings.now a.rises.now) (length a.cuts.now)
sizes c =
    let a = c.args in
    sized (byte_profile a.numbers a.floors.now a.ceilings.now a.rises.now) (length a.cuts.now)
    (sym c.in_ok-check_lengths.ensures)

-- what the arrays hold, of few days
low : (c : After-points) → let a = c.args in a.numbers.days ≤ 512 → Held a.floors.now a.numbers.days c.points.new.out
low c few = let a = c.args in held a.floors.now a.numbers.days few c.points.ensures

high : (c : After-points-2) → let a = c.args in a.numbers.days ≤ 512 → Held a.ceilings.now a.numbers.days c.points-2.new.out
high c few = let a = c.args in held a.ceilings.now a.numbers.days few c.points-2.ensures

steps : (c : After-points-3) → let a = c.args in a.numbers.days ≤ 512 → Held a.rises.now (a.numbers.days - 1) c.points-3.new.out
steps c few = let a = c.args in held a.rises.now (a.numbers.days - 1) (omega (arith, few)) c.points-3.ensures

-- what is checked as opening does, by what the arrays hold
by-opening : (c : After-check_early)
    → let a = c.args in
    Held a.floors.now a.numbers.days c.points.new.out
    → Held a.ceilings.now a.numbers.days c.points-2.new.out
    → Held a.rises.now (a.numbers.days - 1) c.points-3.new.out
    → refusal_of c.check_early.result ≡ early_opening (profile_of (byte_profile a.numbers a.floors.now a.ceilings.now a.rises.now))
by-opening c l h r = rw (l.same, h.same, r.same) at c.check_early.ensures

opens : (c : In_ok-check_early)
    → let a = c.args in
    refusal_of c.check_early.result ≡ early_opening (profile_of (byte_profile a.numbers a.floors.now a.ceilings.now a.rises.now))
    → Opens (byte_profile a.numbers a.floors.now a.ceilings.now a.rises.now) a.cuts.now
opens c e =
    record { lengths = sym c.in_ok-check_lengths.ensures; profile = passed e c.in_ok-check_early.was }

-- past the checks of the lists, the profile and the cuts
checked : (c : In_ok-check_cuts)
    → let a = c.args in
    Opens (byte_profile a.numbers a.floors.now a.ceilings.now a.rises.now) a.cuts.now
    → Checked (byte_profile a.numbers a.floors.now a.ceilings.now a.rises.now) a.cuts.now
checked c o = record { opens = o; formed = sym c.in_ok-check_cuts.ensures }

-- what is stored, by what the arrays hold
stored : (c : After-put_rest)
    → let a = c.args in
    Held a.floors.now a.numbers.days c.points.new.out
    → Held a.ceilings.now a.numbers.days c.points-2.new.out
    → Held a.rises.now (a.numbers.days - 1) c.points-3.new.out
    → Stored (byte_profile a.numbers a.floors.now a.ceilings.now a.rises.now) a.cuts.now a.out.now c.put_rest.new.out
stored c l h r =
    record {
      floors = _;
      ceilings = _;
      rises = _;
      one = _;
      two = _;
      floors-held = l.same;
      ceilings-held = h.same;
      rises-held = r.same;
      header_put = c.put_header.ensures;
      days_put = c.put_days.ensures;
      cuts_put = rw c.day_offset-from.ensures at c.put_rest.ensures;
    }

pub returns-in_err-check_lengths : goal.returns-in_err-check_lengths
returns-in_err-check_lengths c =
    let a = c.args in
    let p : ByteProfile = byte_profile a.numbers a.floors.now a.ceilings.now a.rises.now in
    let r : c.from_residual.result ≡ Err c.in_err-check_lengths.field-0.0 = search rules in
    let whole = bad_lengths p a.cuts.now a.out.now _ c.in_err-check_lengths.ensures in
    rw r (record { value = whole.0; out_after = whole.1 })

pub points-requires : goal.points-requires
points-requires c =
    let t = goal.at.points-requires c in
    let s = (sizes t.In_ok-check_lengths).lists in
    (s.few, omega arith)

pub points-requires-2 : goal.points-requires-2
points-requires-2 c =
    let t = goal.at.points-requires-2 c in
    let s = (sizes t.In_ok-check_lengths).lists in
    (s.few, omega arith)

pub overflow_sub-days : goal.overflow_sub-days
overflow_sub-days c =
    let t = goal.at.overflow_sub-days c in
    omega (arith, (sizes t.In_ok-check_lengths).lists.some)

pub points-requires-3 : goal.points-requires-3
points-requires-3 c =
    let t = goal.at.points-requires-3 c in
    let s = (sizes t.In_ok-check_lengths).lists in
    (omega arith, omega arith)

pub slice_bounds-low-end : goal.slice_bounds-low-end
slice_bounds-low-end c =
    let t = goal.at.slice_bounds-low-end c in
    (low t.After-points (sizes t.In_ok-check_lengths).lists.few).room

pub slice_bounds-floors-end : goal.slice_bounds-floors-end
slice_bounds-floors-end c =
    let t = goal.at.slice_bounds-floors-end c in
    (low t.After-points (sizes t.In_ok-check_lengths).lists.few).long

pub slice_bounds-high-end : goal.slice_bounds-high-end
slice_bounds-high-end c =
    let t = goal.at.slice_bounds-high-end c in
    (high t.After-points-2 (sizes t.In_ok-check_lengths).lists.few).room

pub slice_bounds-ceilings-end : goal.slice_bounds-ceilings-end
slice_bounds-ceilings-end c =
    let t = goal.at.slice_bounds-ceilings-end c in
    (high t.After-points-2 (sizes t.In_ok-check_lengths).lists.few).long

pub slice_bounds-steps-count : goal.slice_bounds-steps-count
slice_bounds-steps-count c =
    let t = goal.at.slice_bounds-steps-count c in
    omega (arith, (sizes t.In_ok-check_lengths).lists.some)

pub slice_bounds-steps-end : goal.slice_bounds-steps-end
slice_bounds-steps-end c =
    let t = goal.at.slice_bounds-steps-end c in
    (steps t.After-points-3 (sizes t.In_ok-check_lengths).lists.few).room

pub slice_bounds-rises-length : goal.slice_bounds-rises-length
slice_bounds-rises-length c =
    let t = goal.at.slice_bounds-rises-length c in
    (steps t.After-points-3 (sizes t.In_ok-check_lengths).lists.few).long

pub returns-in_err-check_early : goal.returns-in_err-check_early
returns-in_err-check_early c =
    let t = goal.at.returns-in_err-check_early c in
    let a = c.args in
    let p : ByteProfile = byte_profile a.numbers a.floors.now a.ceilings.now a.rises.now in
    let few = (sizes t.In_ok-check_lengths).lists.few in
    let e = by-opening t.After-check_early (low t.After-points few) (high t.After-points-2 few) (steps t.After-points-3 few) in
    let r : c.from_residual-in_err-check_early.result ≡ Err c.in_err-check_early.field-0.0 = search rules in
    let whole = bad_profile p a.cuts.now a.out.now _ (right-lengths t.In_ok-check_lengths) (number_said e c.in_err-check_early.was) in
    rw r (record { value = whole.0; out_after = whole.1 })

pub check_cuts-requires : goal.check_cuts-requires
check_cuts-requires c =
    let t = goal.at.check_cuts-requires c in
    let s = sizes t.In_ok-check_lengths in
    (s.few, omega arith)

pub returns-in_err-check_cuts : goal.returns-in_err-check_cuts
returns-in_err-check_cuts c =
    let t = goal.at.returns-in_err-check_cuts c in
    let a = c.args in
    let p : ByteProfile = byte_profile a.numbers a.floors.now a.ceilings.now a.rises.now in
    let few = (sizes t.In_ok-check_lengths).lists.few in
    let o = opens t.In_ok-check_early (by-opening t.After-check_early (low t.After-points few) (high t.After-points-2 few) (steps t.After-points-3 few)) in
    let r : c.from_residual-in_err-check_cuts.result ≡ Err c.in_err-check_cuts.field-0.0 = search rules in
    let whole = bad_cut_lem p a.cuts.now a.out.now _ o c.in_err-check_cuts.ensures in
    rw r (record { value = whole.0; out_after = whole.1 })

pub day_offset-from-requires : goal.day_offset-from-requires
day_offset-from-requires c =
    let t = goal.at.day_offset-from-requires c in
    (sizes t.In_ok-check_lengths).lists.few

pub overflow_add-length : goal.overflow_add-length
overflow_add-length c =
    let t = goal.at.overflow_add-length c in
    let s = sizes t.In_ok-check_lengths in
    omega (arith, c.day_offset-from.ensures, s.lists.few, s.few)

pub returns-then-out-length : goal.returns-then-out-length
returns-then-out-length c =
    let t = goal.at.returns-then-out-length c in
    let a = c.args in
    let p : ByteProfile = byte_profile a.numbers a.floors.now a.ceilings.now a.rises.now in
    let few = (sizes t.In_ok-check_lengths).lists.few in
    let o = opens t.In_ok-check_early (by-opening t.After-check_early (low t.After-points few) (high t.After-points-2 few) (steps t.After-points-3 few)) in
    let k = checked t.In_ok-check_cuts o in
    let whole = too_short p a.cuts.now a.out.now k (omega (arith, c.day_offset-from.ensures, c.if-out-length.true)) in
    record { value = whole.0; out_after = whole.1 }

pub put_header-requires : goal.put_header-requires
put_header-requires c =
    let t = goal.at.put_header-requires c in
    let a = c.args in
    let p : ByteProfile = byte_profile a.numbers a.floors.now a.ceilings.now a.rises.now in
    let s = sizes t.In_ok-check_lengths in
    let few = s.lists.few in
    let o = opens t.In_ok-check_early (by-opening t.After-check_early (low t.After-points few) (high t.After-points-2 few) (steps t.After-points-3 few)) in
    (few, (entered (profile_of p) o.profile).counts, s.few, omega (arith, c.day_offset-from.ensures, c.if-out-length.false))

pub put_days-requires : goal.put_days-requires
put_days-requires c =
    let t = goal.at.put_days-requires c in
    let few = (sizes t.In_ok-check_lengths).lists.few in
    ((low t.After-points few).long, (high t.After-points-2 few).long, few, omega (arith, c.day_offset-from.ensures, c.put_header.auto.out, c.if-out-length.false))

pub put_rest-requires : goal.put_rest-requires
put_rest-requires c =
    let t = goal.at.put_rest-requires c in
    (omega arith, omega (arith, (sizes t.In_ok-check_lengths).whole, c.put_days.auto.out, c.put_header.auto.out, c.if-out-length.false))

pub returns : goal.returns
returns c =
    let t = goal.at.returns c in
    let a = c.args in
    let p : ByteProfile = byte_profile a.numbers a.floors.now a.ceilings.now a.rises.now in
    let few = (sizes t.In_ok-check_lengths).lists.few in
    let o = opens t.In_ok-check_early (by-opening t.After-check_early (low t.After-points few) (high t.After-points-2 few) (steps t.After-points-3 few)) in
    let k = checked t.In_ok-check_cuts o in
    let s = stored t.After-put_rest (low t.After-points few) (high t.After-points-2 few) (steps t.After-points-3 few) in
    let bytes : Bytes a.cuts.now = record { small = λ k. omega (arith, c.type_inv.cuts k) } in
    let from = c.day_offset-from.ensures in
    let whole = written p a.cuts.now a.out.now k bytes (omega (arith, from, c.if-out-length.false)) s in
    record { value = rw from whole.0; out_after = whole.1 }
