-- What is printed for document 01's example.
use Rattle.std.specs.Prelude.{◌≡◌, refl, List, ◌++◌, ℕ}
use Rattle.theory_lists.specs.Sum.{sum_for}
use Rattle.theory_lists.specs.Written.{written}
use Rattle.theory_lists.specs.First.{first_where}
use Rattle.theory_lists.specs.ListOf.{list_of}
use Rattle.theory_lists.specs.Rows.{rows}
use Rattle.theory_chains.specs.Fit.{fit_from}
use Rattle.theory_method.specs.Counted.{counted}
use Rattle.theory_method.specs.Shift.{shift_from}
use Rattle.theory_method.specs.Filter.{tightened, tight_ceilings, tight_floors, raised, lowered_from, carried, spare}
use Rattle.base_little_endian.specs.Fields.{u16_at, u32_at, i16_at, i32_at}
use Rattle.session.specs.Opening.{opened, early_opening}
use Rattle.session_cuts.specs.Numbered.{numbered}
use Rattle.session_order.specs.Order.{days_where}
use Rattle.session_cutting.specs.Cutting.{after_cut, early_cutting, clipped}
use Rattle.file_format.specs.Example.{doc01}
use Rattle.file_format.specs.Format.{profile_in, cuts_in}
use Rattle.file_format.specs.Reading.{early_reading}
use Rattle.base_text.specs.Ascii.{ascii}
use Rattle.base_text.specs.Numbers.{number, decimal, digits}
use Rattle.file_printing.specs.Printing.{cut_once, cut_all, file_opened, total_line, day_line, refused_line, ranges_text, answer_text, printed}

lines : List ℕ
lines = ascii "total 11 11\n" ++ ascii "day 0 3 3\n" ++ ascii "day 1 4 4\n" ++ ascii "day 2 4 4\n"

example : printed doc01 ≡ lines
unfolding counted spare doc01 lines printed answer_text ranges_text total_line day_line refused_line number decimal digits rows file_opened cut_all cut_once profile_in cuts_in list_of early_reading u16_at u32_at i16_at i32_at numbered opened early_opening tightened tight_ceilings tight_floors raised lowered_from first_where carried written sum_for fit_from shift_from after_cut early_cutting clipped days_where
example = refl
