-- `print_sheet` meets its contract: a sheet keeps the numbers in bounds, taken or refused.
use mathlib.Core.Path.{ap, sym, subst}
use mathlib.Core.Bool.{true, false, cond}
use Prim.Native.Nat.{ℕ}
use lib.Dec.{eqb}
use Rattle.session.specs.Showing.{SessionInBounds}
use Rattle.session.specs.declared.Session.{Session}
use Rattle.session_sheets.specs.Sheets.{AfterSheet, sheet_refusal, asked_on, taken_sheet, refused_sheet, after_sheet}
use Rattle.session_sheets.specs.declared.AskedSheet.{AskedSheet}
use Rattle.session_sheets.proofs.Laws.{after-bounds}
use Rattle.program_sheets.proofs.print_sheet.Goals as goal

kept : (s : Session) (t : AskedSheet) (answers changed : ℕ) → SessionInBounds s → SessionInBounds (after_sheet s t answers changed).session
unfolding after_sheet
kept s t answers changed b =
    let refusal : ℕ = sheet_refusal s.days t.count answers changed in
    elim (eqb refusal 0) as (λ z. SessionInBounds (cond z (taken_sheet s (asked_on t) t.count) (refused_sheet refusal s)).session)
    [ true ↦ after-bounds s (asked_on t) t.count b | false ↦ b ]

pub print_after-requires : goal.print_after-requires
print_after-requires g c = subst SessionInBounds (ap (λ (x : AfterSheet). x.session) (sym c.cut_sheet-after.ensures.value)) (kept _ _ _ _ c.requires.0)

pub returns : goal.returns
returns g c = subst SessionInBounds (ap (λ (x : AfterSheet). x.session) (sym c.cut_sheet-after.ensures.value)) (kept _ _ _ _ c.requires.0)
