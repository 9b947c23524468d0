-- `print_ranges` meets its contract: a law of Lines for the stage that refuses, or for none.
use mathlib.Core.Path.{◌≡◌, refl, ap, sym, ◌∙◌}
use native.Mathlib.Omega.{arith}
use lib.ListN.{get_or}
use Rattle.std.specs.Prelude.{Ok}
use Rattle.refusals.specs.Number.{refusal_number, refusal_of}
use Rattle.refusals.proofs.Laws.{refused}
use Rattle.session.specs.Opening.{opened}
use Rattle.session_cuts.specs.Sheet.{blank}
use Rattle.file_format.specs.Format.{profile_in}
use Rattle.file_format.specs.Reading.{early_reading}
use Rattle.file_reading.specs.Reading.{ReadAnswer, read_as}
use Rattle.file_reading.proofs.Laws.{read_number}
use Rattle.file_printing.specs.Printing.{cut_all, printed, answer_text, refused_line, ranges_text}
use Rattle.file_printing.specs.Stages.{unrefused}
use Rattle.file_printing.proofs.Lines.{answer-refused, answer-ranges, read-refused, open_refused, sheet_applied}
use Rattle.file_printing.proofs.Reading.{Got, got}
use Rattle.file_printing.proofs.print_ranges.Goals as goal
use Rattle.file_printing.proofs.print_ranges.Goals.{In-Ok, In-Ok-opening}

got-file : (c : In-Ok) → let n = c.read-reading.new in Got c.args.file.now (read_as (Ok c.in-Ok.contents)) n.floors n.ceilings n.rises
got-file c =
    let e = c.in-Ok.ensures in
    got c.args.file.now (record { answer = e.value; passed = refl; floors = e.floors_after; ceilings = e.ceilings_after; rises = e.rises_after })

opens : (c : In-Ok-opening) → let n = c.read-reading.new in Got c.args.file.now (read_as (Ok c.in-Ok.contents)) n.floors n.ceilings n.rises
    → opened (profile_in c.args.file.now) ≡ unrefused c.in-Ok-opening.session
opens c g = ap opened (sym g.entered) ∙ c.in-Ok-opening.ensures.0

cuts : (c : In-Ok-opening) → let n = c.read-reading.new in let s = c.in-Ok.contents.sheet in Got c.args.file.now (read_as (Ok c.in-Ok.contents)) n.floors n.ceilings n.rises
    → opened (profile_in c.args.file.now) ≡ unrefused c.in-Ok-opening.session
    → printed c.args.file.now ≡ answer_text (cut_all (unrefused c.in-Ok-opening.session) (λ j. (get_or s.entries j blank).cut) s.count)
cuts c g e =
    let s = c.in-Ok.contents.sheet in
    sheet_applied c.args.file.now g.none s g.cuts ∙ ap (λ o. answer_text (cut_all o (λ j. (get_or s.entries j blank).cut) s.count)) e

-- ---- reading refused

pub returns-in_default : goal.returns-in_default
returns-in_default c =
    let file = c.args.file.now in
    let r = c.in_default.field-0 in
    let number : refusal_number r ≡ early_reading file =
    ap (λ (a : ReadAnswer). a.refusal) c.in_default.ensures.value ∙ read_number file 512 512 511 (omega arith) (omega arith) (omega arith) in
    let shown : c.number_of.result ≡ refusal_number r = c.number_of.ensures ∙ ap refusal_of c.in_default.is in
    let e : printed file ≡ refused_line c.number_of.result = read-refused file (λ z. refused r (number ∙ z)) ∙ ap refused_line (sym (shown ∙ number)) in
    record { out_after = rw e c.put_refusal.ensures.out_after; value = rw e c.put_refusal.ensures.value }

-- ---- opening refused

pub open_read-opening-requires : goal.open_read-opening-requires
open_read-opening-requires c = let g = got-file (goal.at.open_read-opening-requires c).In-Ok in (g.some, g.few)

pub returns-in_default-opening : goal.returns-in_default-opening
returns-in_default-opening c =
    let file = c.args.file.now in
    let r = c.in_default-opening.field-0 in
    let g = got-file (goal.at.returns-in_default-opening c).In-Ok in
    let o : (opened (profile_in file)).refusal ≡ refusal_number r = ap (λ p. (opened p).refusal) (sym g.entered) ∙ c.in_default-opening.ensures in
    let shown : c.number_of-in_default-opening.result ≡ refusal_number r = c.number_of-in_default-opening.ensures ∙ ap refusal_of c.in_default-opening.is in
    let e : printed file ≡ refused_line c.number_of-in_default-opening.result =
    open_refused file g.none (λ z. refused r (sym o ∙ z)) ∙ ap refused_line (o ∙ sym shown) in
    record { out_after = rw e c.put_refusal-in_default-opening.ensures.out_after; value = rw e c.put_refusal-in_default-opening.ensures.value }

-- ---- a cut refused, or none

pub cut_all-cutting-requires : goal.cut_all-cutting-requires
cut_all-cutting-requires c = (c.in-Ok-opening.ensures.1, (got-file (goal.at.cut_all-cutting-requires c).In-Ok).few_cuts)

pub returns-in_default-cutting : goal.returns-in_default-cutting
returns-in_default-cutting c =
    let t = goal.at.returns-in_default-cutting c in
    let r = c.in_default-cutting.field-0 in
    let g = got-file t.In-Ok in
    let number = c.in_default-cutting.ensures in
    let shown : c.number_of-in_default-cutting.result ≡ refusal_number r = c.number_of-in_default-cutting.ensures ∙ ap refusal_of c.in_default-cutting.is in
    let e : printed c.args.file.now ≡ refused_line c.number_of-in_default-cutting.result =
    cuts t.In-Ok-opening g (opens t.In-Ok-opening g) ∙ answer-refused _ (λ z. refused r (sym number ∙ z)) ∙ ap refused_line (number ∙ sym shown) in
    record { out_after = rw e c.put_refusal-in_default-cutting.ensures.out_after; value = rw e c.put_refusal-in_default-cutting.ensures.value }

pub returns : goal.returns
returns c =
    let t = goal.at.returns c in
    let g = got-file t.In-Ok in
    let s = c.in-Ok-cutting.session in
    let e : printed c.args.file.now ≡ ranges_text s =
    cuts t.In-Ok-opening g (opens t.In-Ok-opening g) ∙ ap answer_text c.in-Ok-cutting.ensures.0 ∙ answer-ranges (unrefused s) refl in
    record { out_after = rw e c.put_ranges.ensures.out_after; value = rw e c.put_ranges.ensures.value }
