-- What `read_contents` gives, by what its calls gave; and `read`, by what its tests found: a law for each refusal, and one for a file taken whole.
use Rattle.std.specs.Prelude.{Result, Ok, Err}
use mathlib.Core.Path.{◌≡◌, refl, sym, ◌∙◌}
use mathlib.Core.Bool.{or-true}
use mathlib.Core.List.{List}
use Prim.Native.Nat.{ℕ, ◌-◌, ◌≤◌, ◌<◌}
use lib.IntN.{ℤ}
use lib.ListN.{length}
use borrow.Author.Tests.{ne_eqb, lt-ltb}
use Rattle.theory_lists.specs.Written.{written}
use Rattle.theory_lists.specs.Lent.{lent_list, list_left, list-filled}
use Rattle.refusals.specs.declared.Refusal.{Refusal}
use Rattle.refusals.specs.Number.{refusal_number, refusal_of}
use Rattle.refusals.proofs.Laws.{refused}
use Rattle.session.specs.declared.Numbers.{Numbers}
use Rattle.session_cuts.specs.declared.Sheet.{Sheet}
use Rattle.file_format.specs.Format.{day_offset, day_count, cut_count, numbers_in, floor_at, ceiling_at, rise_at}
use Rattle.file_format.specs.Reading.{early_reading, reading_refusal}
use Rattle.file_reading.specs.declared.Contents.{Contents}
use Rattle.file_reading.specs.Reading.{sheet_from, contents, read_as, read_from}
use Rattle.file_reading.proofs.Laws.{Room, read_all}

-- ---- read_contents

-- what its calls gave of the file
pub record Gave (b : List ℕ) (numbers : Numbers) (m : ℕ) (s : Sheet) : Type 0 where
  pub found : numbers ≡ numbers_in b
  pub cuts : m ≡ cut_count b
  pub sheet : s ≡ sheet_from b (day_offset numbers.days) m

pub contents_as : {b : List ℕ} {numbers : Numbers} {m : ℕ} {s : Sheet} → Gave b numbers m s → read_as (Ok (record { numbers = numbers; sheet = s })) ≡ contents b
unfolding contents
contents_as {b} g i =
    record { refusal = 0; numbers = g.found i; sheet = (g.sheet ∙ (λ j. sheet_from b (day_offset (g.found j).days) (g.cuts j))) i }

-- ---- read

-- a file's bytes and the lists that are lent for its floors, ceilings and rises
pub record ReadCall : Type 0 where
  pub bytes : List ℕ
  pub floors : List ℤ
  pub ceilings : List ℤ
  pub rises : List ℤ

-- no check of the file itself refuses it, and n is its day count
pub record Counted (b : List ℕ) (n : ℕ) : Type 0 where
  pub passed : early_reading b ≡ 0
  pub days : n ≡ day_count b

-- each list has room, and these are the lists that hold n days
pub record Stored (h : ReadCall) (n : ℕ) (floors ceilings rises : List ℤ) : Type 0 where
  pub floors-long : n ≤ length h.floors
  pub ceilings-long : n ≤ length h.ceilings
  pub rises-long : n - 1 ≤ length h.rises
  pub floors_stored : floors ≡ written (floor_at h.bytes) n h.floors
  pub ceilings_stored : ceilings ≡ written (ceiling_at h.bytes) n h.ceilings
  pub rises_stored : rises ≡ written (rise_at h.bytes) (n - 1) h.rises

-- the refusal's number, which reading has to give
abbrev number : ReadCall → ℕ
number h = reading_refusal h.bytes (length h.floors) (length h.ceilings) (length h.rises)

module _ (h : ReadCall) where
  pub file-refused : {e : ℕ} → e ≡ early_reading h.bytes → (e ≡ 0 → ⊥) → number h ≡ e
  unfolding reading_refusal
  file-refused {e} ee some = rw (← ee, ne_eqb e 0 some)

  module _ {n : ℕ} (k : Counted h.bytes n) where
    pub no_floors : length h.floors < n → number h ≡ 2
    unfolding reading_refusal
    no_floors short = rw (k.passed, ← k.days, lt-ltb (length h.floors) n short)

    pub no_ceilings : length h.ceilings < n → number h ≡ 2
    unfolding reading_refusal
    no_ceilings short = rw (k.passed, ← k.days, lt-ltb (length h.ceilings) n short, or-true)

    pub no_rises : length h.rises < n - 1 → number h ≡ 2
    unfolding reading_refusal
    no_rises short = rw (k.passed, ← k.days, lt-ltb (length h.rises) (n - 1) short, or-true)

  -- what `read` ensures of its answer and of the lists that it leaves
  abbrev Answers : Result Contents Refusal → List ℤ → List ℤ → List ℤ → Type 0
  Answers a floors ceilings rises =
      (read_as a ≡ read_from h.bytes (length h.floors) (length h.ceilings) (length h.rises))
      × ((floors ≡ lent_list (refusal_of a) (floor_at h.bytes) (day_count h.bytes) h.floors)
      × ((ceilings ≡ lent_list (refusal_of a) (ceiling_at h.bytes) (day_count h.bytes) h.ceilings)
      × (rises ≡ lent_list (refusal_of a) (rise_at h.bytes) (day_count h.bytes - 1) h.rises)))

  pub refused_by : (r : Refusal) → number h ≡ refusal_number r → Answers (Err r) h.floors h.ceilings h.rises
  unfolding read_from
  refused_by r e =
      let b = h.bytes in
      let apart = refused r in (
        rw (e, ne_eqb (refusal_number r) 0 apart),
        (
          sym (list_left (refusal_number r) (floor_at b) (day_count b) h.floors apart),
          (
            sym (list_left (refusal_number r) (ceiling_at b) (day_count b) h.ceilings apart),
            sym (list_left (refusal_number r) (rise_at b) (day_count b - 1) h.rises apart),
          ),
        ),
      )

  pub taken-whole : {a : Contents} {n : ℕ} {floors ceilings rises : List ℤ} → read_as (Ok a) ≡ contents h.bytes → Counted h.bytes n → Stored h n floors ceilings rises
      → Answers (Ok a) floors ceilings rises
  taken-whole e k s =
      let b = h.bytes in
      let room : Room b (length h.floors) (length h.ceilings) (length h.rises) =
      record { floors-long = rw (← k.days) s.floors-long; ceilings-long = rw (← k.days) s.ceilings-long; rises-long = rw (← k.days) s.rises-long } in (
        e ∙ sym (read_all b (length h.floors) (length h.ceilings) (length h.rises) k.passed room),
        (
          rw (list-filled 0 (floor_at b) (day_count b) h.floors refl, ← k.days) s.floors_stored,
          (
            rw (list-filled 0 (ceiling_at b) (day_count b) h.ceilings refl, ← k.days) s.ceilings_stored,
            rw (list-filled 0 (rise_at b) (day_count b - 1) h.rises refl, ← k.days) s.rises_stored,
          ),
        ),
      )
