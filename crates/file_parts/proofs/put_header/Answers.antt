-- `put_header` meets its contract: seven fields stored one after another (`stored_after`).
use mathlib.Core.List.{◌++◌}
use mathlib.Core.Path.{◌≡◌, refl, ap, ◌∙◌}
use lib.Seq.{sets}
use mir.Facts.{to_z-of_z}
use mir.Syntax.{w32}
use mir.Val.{SFits}
use Rattle.base_little_endian.specs.Fields.{u16_bytes, u32_bytes, i32_bytes}
use Rattle.file_format.specs.Format.{header, day_offset}
use Rattle.theory_lists.specs.Rows.{stored_after}
use borrow.Author.Rules.{rules}
use Rattle.file_parts.proofs.put_header.Goals as goal

pub returns : goal.returns
unfolding header u16_bytes u32_bytes i32_bytes
returns c =
    let s = c.args in
    let l = s.out.now in
    let n = u16_bytes s.numbers.days in
    let m = u16_bytes s.cuts in
    let a = u16_bytes 18 in
    let b = u16_bytes (day_offset s.numbers.days) in
    let low = i32_bytes s.numbers.lowest in
    let high = i32_bytes s.numbers.highest in
    -- the total's bounds fit 32 bits
    let lowest_fits : SFits w32 s.numbers.lowest = search rules in
    let highest_fits : SFits w32 s.numbers.highest = search rules in
    let first : c.put_u16-5.new.out ≡ sets c.put_i32-2.new.out 16 (u16_bytes s.numbers.first) = c.put_u16-5.ensures in
    stored_after l 0 16 (n ++ m ++ a ++ b ++ low ++ high) (u16_bytes s.numbers.first) refl
    (stored_after l 0 12 (n ++ m ++ a ++ b ++ low) high refl
    (stored_after l 0 8 (n ++ m ++ a ++ b) low refl
    (stored_after l 0 6 (n ++ m ++ a) b refl
    (stored_after l 0 4 (n ++ m) a refl (stored_after l 0 2 n m refl c.put_u16.ensures c.put_u16-2.ensures) c.put_u16-3.ensures)
    (c.put_u16-4.ensures ∙ ap (λ z. sets c.put_u16-3.new.out 6 (u16_bytes z)) c.day_offset.ensures))
    (rw (to_z-of_z lowest_fits) at c.put_i32.ensures))
    (c.put_i32-2.ensures ∙ ap (λ z. sets c.put_i32.new.out 12 (i32_bytes z)) (to_z-of_z highest_fits)))
    first
