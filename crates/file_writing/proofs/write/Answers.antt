-- `write` meets its contract: a law of Answers for each refusal, by the checks that have passed before it, and one for the three parts stored.
use mathlib.Core.Path.{◌≡◌, sym}
use native.Mathlib.Omega.{arith}
use borrow.Author.Rules.{rules}
use Rattle.session.specs.Opening.{profile, early_opening}
use Rattle.session.proofs.Entered.{Entered, Sized, entered}
use Rattle.file_writing.proofs.Answers.{Checked, too_many, bad_profile, bad_cut_lem, too_short, entry_day, written, value_told}
use Rattle.file_writing.proofs.write.Goals as goal
use Rattle.file_writing.proofs.write.Goals.{In_ok-check_entries}

pub returns-then-count-gt-MOST_CUTS : goal.returns-then-count-gt-MOST_CUTS
returns-then-count-gt-MOST_CUTS c =
    let a = c.args in
    let all = too_many (profile a.numbers a.floors.now a.ceilings.now a.rises.now) a.sheet a.out.now c.if-count-gt-MOST_CUTS.true in
    record { value = all.0; out_after = all.1 }

pub returns-in_err-check_early : goal.returns-in_err-check_early
returns-in_err-check_early c =
    let a = c.args in
    let r = c.in_err-check_early.field-0.0 in
    let all = bad_profile (profile a.numbers a.floors.now a.ceilings.now a.rises.now) a.sheet a.out.now r c.if-count-gt-MOST_CUTS.false c.in_err-check_early.ensures in
    record { value = value_told _ _ _ r (search rules) all; out_after = all.1 }

pub returns-in_err-check_entries : goal.returns-in_err-check_entries
returns-in_err-check_entries c =
    let a = c.args in
    let p = profile a.numbers a.floors.now a.ceilings.now a.rises.now in
    let r = c.in_err-check_entries.field-0.0 in
    let passed : early_opening p ≡ 0 = omega arith in
    let all = bad_cut_lem p a.sheet a.out.now r (record { few = c.if-count-gt-MOST_CUTS.false; profile = passed }) c.in_err-check_entries.ensures in
    record { value = value_told _ _ _ r (search rules) all; out_after = all.1 }

-- past the checks of the profile and the cuts
right : (c : In_ok-check_entries) → Entered (profile c.args.numbers c.args.floors.now c.args.ceilings.now c.args.rises.now)
right c = entered _ (omega arith)

checked : (c : In_ok-check_entries) → Checked (profile c.args.numbers c.args.floors.now c.args.ceilings.now c.args.rises.now) c.args.sheet
checked c = record {
  opens = (record { few = c.if-count-gt-MOST_CUTS.false; profile = omega arith });
  formed = sym c.in_ok-check_entries.ensures;
}

sizes : (c : In_ok-check_entries) → Sized (profile c.args.numbers c.args.floors.now c.args.ceilings.now c.args.rises.now)
sizes c = (right c).sized

pub day_offset-from-requires : goal.day_offset-from-requires
day_offset-from-requires c = (sizes (goal.at.day_offset-from-requires c).In_ok-check_entries).few

pub overflow_add-length : goal.overflow_add-length
overflow_add-length c = omega (arith, (sizes (goal.at.overflow_add-length c).In_ok-check_entries).few, c.day_offset-from.ensures)

pub returns-then-out-length : goal.returns-then-out-length
returns-then-out-length c =
    let all = too_short _ _ c.args.out.now (checked (goal.at.returns-then-out-length c).In_ok-check_entries)
    (omega (arith, c.if-out-length.true, c.day_offset-from.ensures)) in record { value = all.0; out_after = all.1 }

pub put_header-requires : goal.put_header-requires
put_header-requires c = (
  (sizes (goal.at.put_header-requires c).In_ok-check_entries).few,
  (right (goal.at.put_header-requires c).In_ok-check_entries).counts,
  (checked (goal.at.put_header-requires c).In_ok-check_entries).opens.few,
  omega (arith, c.if-out-length.false, c.day_offset-from.ensures),
)

pub put_days-requires : goal.put_days-requires
put_days-requires c =
    let z = sizes (goal.at.put_days-requires c).In_ok-check_entries in
    (sym z.floors, sym z.ceilings, z.few, omega (arith, c.put_header.auto.out, c.if-out-length.false, c.day_offset-from.ensures))

pub put_entries-requires : goal.put_entries-requires
put_entries-requires c =
    let k = checked (goal.at.put_entries-requires c).In_ok-check_entries in
    (k.opens.few, omega (arith, c.put_days.auto.out, c.put_header.auto.out, c.if-out-length.false), entry_day _ _ k)

pub returns : goal.returns
returns c =
    let all = written _ _ (checked (goal.at.returns c).In_ok-check_entries)
    (record {
      place = c.day_offset-from.ensures;
      room = c.if-out-length.false;
      header_stored = c.put_header.ensures;
      days_stored = c.put_days.ensures;
      cuts_stored = c.put_entries.ensures;
    }) in record { value = all.0; out_after = all.1 }
