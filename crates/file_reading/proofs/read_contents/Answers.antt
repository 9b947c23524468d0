-- `read_contents` meets its contract: each call gave a field of the contents (`contents_as`); the total's bounds are read back from machine words.
use mathlib.Core.Path.{◌∙◌}
use mir.Syntax.{w32}
use mir.Facts.{to_z-of_z}
use borrow.Author.Rules.{sfits_of}
use Rattle.session.specs.Opening.{numbers_with}
use Rattle.file_reading.proofs.Stages.{contents_as}
use Rattle.file_reading.proofs.read_contents.Goals as goal

pub returns : goal.returns
returns c =
    let days = c.requires.0 in
    let first = c.from-first.ensures ∙ c.u16_at.ensures in
    let lowest = to_z-of_z {w = w32} (sfits_of c.i32_at-lowest.type_inv) ∙ c.i32_at-lowest.ensures in
    let highest = to_z-of_z {w = w32} (sfits_of c.i32_at-highest.type_inv) ∙ c.i32_at-highest.ensures in
    contents_as
    (record {
      found = λ i. numbers_with (days i) (first i) (lowest i) (highest i);
      cuts = c.from-count.ensures ∙ c.u16_at-2.ensures;
      sheet = rw c.day_offset.ensures at c.read_sheet-sheet.ensures;
    })
