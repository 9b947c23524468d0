-- `check_file` meets its contract: a law of Laws for each way out, by what has passed before it: the header, the counts, the layout.
use mathlib.Core.Path.{◌≡◌, sym, ◌∙◌}
use native.Mathlib.Omega.{arith}
use borrow.Author.Rules.{rules}
use Rattle.std.specs.Prelude.{Err}
use Rattle.refusals.proofs.Laws.{refused}
use Rattle.file_checks.proofs.Laws.{Header, Counted, Laid, no_header, counts-refused, counted-here, layout_refused, whole_here, fields_last}
use Rattle.file_checks.proofs.check_file.Goals as goal
use Rattle.file_checks.proofs.check_file.Goals.{After-from-cuts, In_ok-check_counts, In_ok-check_layout}

header : (c : After-from-cuts) → Header c.args.bytes.now c.from-days.result c.from-cuts.result
header c = record {
  long = c.if-bytes-lt-DAYS_BEGIN.false;
  said = record { days = c.from-days.ensures ∙ c.u16_at.ensures; cuts = c.from-cuts.ensures ∙ c.u16_at-2.ensures };
}

counted : (c : In_ok-check_counts) → Counted c.args.bytes.now c.from-days.result c.from-cuts.result
counted c = record {
  header = (record {
    long = c.if-bytes-lt-DAYS_BEGIN.false;
    said = record { days = c.from-days.ensures ∙ c.u16_at.ensures; cuts = c.from-cuts.ensures ∙ c.u16_at-2.ensures };
  });
  none = sym c.in_ok-check_counts.ensures;
}

laid : (c : In_ok-check_layout) → Laid c.args.bytes.now c.from-days.result c.from-cuts.result
laid c = record {
  counted = (record {
    header = (record {
      long = c.if-bytes-lt-DAYS_BEGIN.false;
      said = record { days = c.from-days.ensures ∙ c.u16_at.ensures; cuts = c.from-cuts.ensures ∙ c.u16_at-2.ensures };
    });
    none = sym c.in_ok-check_counts.ensures;
  });
  none = sym c.in_ok-check_layout.ensures;
}

pub returns-then-bytes-lt-DAYS_BEGIN : goal.returns-then-bytes-lt-DAYS_BEGIN
returns-then-bytes-lt-DAYS_BEGIN c = no_header _ c.if-bytes-lt-DAYS_BEGIN.true

pub returns-in_err-check_counts : goal.returns-in_err-check_counts
returns-in_err-check_counts c =
    let e : c.from_residual.result ≡ Err c.in_err-check_counts.field-0.0 = search rules in
    rw e (counts-refused _ (header (goal.at.returns-in_err-check_counts c).After-from-cuts) c.in_err-check_counts.ensures (refused _))

pub check_layout-requires : goal.check_layout-requires
check_layout-requires c =
    let k = counted (goal.at.check_layout-requires c).In_ok-check_counts in
    let s = k.header.said in
    let few = counted-here _ k in
    (k.header.long, s.days, s.cuts, omega (arith, s.days), omega (arith, s.cuts))

pub returns-in_err-check_layout : goal.returns-in_err-check_layout
returns-in_err-check_layout c =
    let e : c.from_residual-in_err-check_layout.result ≡ Err c.in_err-check_layout.field-0.0 = search rules in
    rw e (layout_refused _ (counted (goal.at.returns-in_err-check_layout c).In_ok-check_counts) c.in_err-check_layout.ensures (refused _))

pub check_fields-requires : goal.check_fields-requires
check_fields-requires c =
    let k = laid (goal.at.check_fields-requires c).In_ok-check_layout in
    let s = k.counted.header.said in
    let few = counted-here _ k.counted in
    (whole_here _ k, s.days, s.cuts, omega (arith, s.days), omega (arith, s.days), omega (arith, s.cuts))

pub returns : goal.returns
returns c = fields_last _ (laid (goal.at.returns c).In_ok-check_layout) c.check_fields.ensures
