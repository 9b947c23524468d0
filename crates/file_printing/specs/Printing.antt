-- Document 01: what the program `ranges` prints for a file.
use Rattle.std.specs.Prelude.{◌≡◌, cond, List, ◌++◌, ℕ, zero, suc, ◌<◌, ◌+◌, ℤ, eqb, length, take}
use Rattle.limits.specs.Limits.{most_days}
use Rattle.theory_lists.specs.Rows.{rows}
use Rattle.base_text.specs.Ascii.{ascii}
use Rattle.base_text.specs.Numbers.{decimal, number}
use Rattle.session.specs.Opening.{opened, refused_with, Opened}
use Rattle.session.specs.Showing.{floor_on, ceiling_on, total_floor, total_ceiling}
use Rattle.session.specs.declared.Session.{Session}
use Rattle.session_cuts.specs.declared.Cut.{Cut}
use Rattle.session_cuts.specs.Sheet.{cut_on}
use Rattle.session_cutting.specs.Cutting.{after_cut, AfterCut}
use Rattle.file_format.specs.Format.{longest_file, profile_in, cuts_in}
use Rattle.file_format.specs.Reading as Reading

-- ---- the work

-- one cut more, where nothing has been refused; the list lent for changed days is 512 long
abbrev pub after_entry : AfterCut → Opened
after_entry a = record { refusal = a.answer.refusal; session = a.session }

unfoldable pub cut_once : Opened → Cut → Opened
cut_once o c = cond (eqb o.refusal 0) (after_entry (after_cut o.session c most_days)) o

-- the first m cuts in order, up to the first refusal
unfoldable pub cut_all : Opened → (ℕ → Cut) → ℕ → Opened
cut_all o f zero = o
cut_all o f (suc m) = cut_once (cut_all o f m) (f m)

-- a file read, opened, and its cuts applied: the first refusal, or 0 and the session
unfoldable pub file_opened : List ℕ → Opened
file_opened b =
    cond (eqb (Reading.early_reading b) 0) (cut_all (opened (profile_in b)) (cut_on (cuts_in b)) (length (cuts_in b))) (refused_with (Reading.early_reading b))

-- the most bytes of the total's line and of a day's
abbrev pub total_line_length : ℕ
total_line_length = 22

abbrev pub day_line_length : ℕ
day_line_length = 20

-- ---- the text: a space between fields, a line feed after each line

abbrev pub range : ℤ → ℤ → List ℕ
range low high = ascii " " ++ number low ++ ascii " " ++ number high ++ ascii "\n"

unfoldable pub total_line : ℤ → ℤ → List ℕ
total_line low high = ascii "total" ++ range low high

unfoldable pub day_line : ℕ → ℤ → ℤ → List ℕ
day_line day low high = ascii "day " ++ decimal day ++ range low high

unfoldable pub refused_line : ℕ → List ℕ
refused_line refusal = ascii "refused " ++ decimal refusal ++ ascii "\n"

-- the total's range, then each day's
unfoldable pub ranges_text : Session → List ℕ
ranges_text s = total_line (total_floor s) (total_ceiling s) ++ rows (λ k. day_line k (floor_on s k) (ceiling_on s k)) s.days

unfoldable pub answer_text : Opened → List ℕ
answer_text o = cond (eqb o.refusal 0) (ranges_text o.session) (refused_line o.refusal)

unfoldable pub printed : List ℕ → List ℕ
printed b = answer_text (file_opened b)

-- of an input longer than the longest file one byte more than that tells what is printed
abbrev pub PrintedLong : Type 0
PrintedLong = (b : List ℕ) → longest_file < length b → printed (take (longest_file + 1) b) ≡ printed b
