-- `store_fresh` meets its contract: each call stores the next part of the encoding after those before it (`laid_more`), and the last one ends it
-- (`sets-whole`).
use mathlib.Core.List.{List, ◌++◌}
use mathlib.Core.Path.{◌≡◌, sym, ◌∙◌}
use Prim.Native.Nat.{ℕ}
use lib.ListN.{length-append}
use Rattle.base_little_endian.specs.Fields.{u16_bytes}
use Rattle.base_little_endian.proofs.Laws.{u16-length}
use Rattle.base_codes.specs.declared.CodedNumbers.{CodedNumbers}
use Rattle.session.specs.Opening.{fresh}
use Rattle.session.specs.declared.Session.{Session}
use Rattle.c_layout.specs.Layout.{total_bytes, block_bytes, encoding}
use Rattle.c_layout.proofs.Lengths.{totals-length, block_length_lem, encoding-length}
use Rattle.c_storing.proofs.Laws.{laid, laid_more, laid_last, sets-whole}
use Rattle.c_storing.proofs.store_fresh.Goals as goal
use Rattle.c_storing.proofs.store_fresh.Goals.{After-put_u16-3}

-- the session that is stored
abbrev stored : CodedNumbers → List ℕ → List ℕ → List ℕ → Session
stored m rises floors ceilings = fresh m.days m.first rises (record { floors = floors; ceilings = ceilings; lowest = m.lowest; highest = m.highest })

-- the bytes once all is stored
whole : (c : After-put_u16-3) → let a = c.args in c.put_u16-3.new.out ≡ encoding (stored a.numbers a.rises.now a.floors.now a.ceilings.now)
unfolding encoding
whole c =
    let a = c.args in
    let l = a.out.now in
    let s = stored a.numbers a.rises.now a.floors.now a.ceilings.now in
    let few = c.requires.0.most in
    let block : (List ℕ → List ℕ) = λ xs. block_bytes xs s.days in
    let total : List ℕ = total_bytes s.present.lowest s.present.highest in
    let ranges : List ℕ = block s.present.floors ++ block s.present.ceilings in
    let days = laid l 0 (u16_bytes s.days) c.put_u16.ensures (u16-length _) in
    let spent = laid_more days (u16_bytes 0) (rw c.from.ensures at c.put_u16-2.ensures) (u16-length _) in
    let opened = laid_more spent total c.put_totals.ensures (totals-length _ _) in
    let present = laid_more opened total c.put_totals-2.ensures (totals-length _ _) in
    let rises = laid_more present (block s.rises) c.put_block.ensures (block_length_lem _ _ few) in
    let earlier = laid_more rises ranges c.put_ranges.ensures {v = 2048} (simp (length-append, block_length_lem)) in
    let later = laid_more earlier ranges c.put_ranges-2.ensures {v = 2048} (simp (length-append, block_length_lem)) in
    laid_last later (u16_bytes s.first) c.put_u16-3.ensures ∙ sets-whole (encoding s) l (encoding-length s few ∙ sym c.requires.1)

pub returns : goal.returns
returns c = whole (goal.at.returns c).After-put_u16-3
