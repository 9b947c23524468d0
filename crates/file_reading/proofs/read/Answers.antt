-- `read` meets its contract: a law of Stages for each way out. What the later calls require holds of a file that `check_file` passes (`Taken`).
use Prim.Native.Nat.{ℕ}
use mathlib.Core.Path.{◌≡◌, sym, ◌∙◌}
use mathlib.Core.List.{List}
use lib.IntN.{ℤ}
use native.Mathlib.Omega.{arith}
use borrow.Author.Rules.{rules}
use Rattle.std.specs.Prelude.{Err}
use Rattle.refusals.specs.declared.Refusal.TheVariants.{Length}
use Rattle.refusals.proofs.Laws.{refused}
use Rattle.file_format.specs.Reading.{early_reading}
use Rattle.file_format.proofs.Taken.{Taken, taken}
use Rattle.file_reading.proofs.Stages.{ReadCall, Counted, file-refused, no_floors, no_ceilings, no_rises, refused_by, taken-whole}
use Rattle.file_reading.proofs.read.Goals as goal
use Rattle.file_reading.proofs.read.Goals.{After-from-days, In_ok-check_file}

-- what is handed over
abbrev handed : List ℕ → List ℤ → List ℤ → List ℤ → ReadCall
handed bytes floors ceilings rises = record { bytes = bytes; floors = floors; ceilings = ceilings; rises = rises }

passed : (c : In_ok-check_file) → early_reading c.args.bytes.now ≡ 0
passed c = sym c.in_ok-check_file.ensures

counted : (c : After-from-days) → Counted c.args.bytes.now c.from-days.result
counted c = record { passed = sym c.in_ok-check_file.ensures; days = c.from-days.ensures ∙ c.u16_at.ensures }

whole : (c : After-from-days) → Taken c.args.bytes.now
whole c = taken _ (sym c.in_ok-check_file.ensures)

pub returns-in_err-check_file : goal.returns-in_err-check_file
returns-in_err-check_file c =
    let r = c.in_err-check_file.field-0.0 in
    let e : c.from_residual.result ≡ Err r = search rules in
    let k : ReadCall = handed c.args.bytes.now c.args.floors.now c.args.ceilings.now c.args.rises.now in
    let all = refused_by k r (file-refused k c.in_err-check_file.ensures (refused r)) in
    rw e (record { value = all.0; floors_after = all.1.0; ceilings_after = all.1.1.0; rises_after = all.1.1.1 })

pub u16_at-requires : goal.u16_at-requires
u16_at-requires c = omega (arith, (taken _ (passed (goal.at.u16_at-requires c).In_ok-check_file)).whole)

pub returns-then-floors-days : goal.returns-then-floors-days
returns-then-floors-days c =
    let k : ReadCall = handed c.args.bytes.now c.args.floors.now c.args.ceilings.now c.args.rises.now in
    let all = refused_by k Length (no_floors k (counted (goal.at.returns-then-floors-days c).After-from-days) (omega arith)) in
    record { value = all.0; floors_after = all.1.0; ceilings_after = all.1.1.0; rises_after = all.1.1.1 }

pub returns-then-ceilings-days : goal.returns-then-ceilings-days
returns-then-ceilings-days c =
    let k : ReadCall = handed c.args.bytes.now c.args.floors.now c.args.ceilings.now c.args.rises.now in
    let all = refused_by k Length (no_ceilings k (counted (goal.at.returns-then-ceilings-days c).After-from-days) (omega arith)) in
    record { value = all.0; floors_after = all.1.0; ceilings_after = all.1.1.0; rises_after = all.1.1.1 }

pub overflow_sub-days : goal.overflow_sub-days
overflow_sub-days c = omega (arith, (whole (goal.at.overflow_sub-days c).After-from-days).some, (counted (goal.at.overflow_sub-days c).After-from-days).days)

pub returns-then-rises-days : goal.returns-then-rises-days
returns-then-rises-days c =
    let k : ReadCall = handed c.args.bytes.now c.args.floors.now c.args.ceilings.now c.args.rises.now in
    let all = refused_by k Length (no_rises k (counted (goal.at.returns-then-rises-days c).After-from-days) (omega arith)) in
    record { value = all.0; floors_after = all.1.0; ceilings_after = all.1.1.0; rises_after = all.1.1.1 }

pub store_days-requires : goal.store_days-requires
store_days-requires c =
    let w = whole (goal.at.store_days-requires c).After-from-days in
    let e = (counted (goal.at.store_days-requires c).After-from-days).days in
    (omega arith, omega arith, omega arith, omega arith, omega arith)

pub read_contents-requires : goal.read_contents-requires
read_contents-requires c =
    let w = whole (goal.at.read_contents-requires c).After-from-days in
    let e = (counted (goal.at.read_contents-requires c).After-from-days).days in
    (e, omega arith, omega arith, w.few_cuts)

pub returns : goal.returns
returns c =
    let k : ReadCall = handed c.args.bytes.now c.args.floors.now c.args.ceilings.now c.args.rises.now in
    let all = taken-whole k c.read_contents.ensures (counted (goal.at.returns c).After-from-days)
    (record {
      floors-long = omega arith;
      ceilings-long = omega arith;
      rises-long = omega arith;
      floors_stored =
          c.store_days.ensures.floors_after;
      ceilings_stored = c.store_days.ensures.ceilings_after;
      rises_stored = c.store_days.ensures.rises_after;
    })
    in
    record { value = all.0; floors_after = all.1.0; ceilings_after = all.1.1.0; rises_after = all.1.1.1 }
