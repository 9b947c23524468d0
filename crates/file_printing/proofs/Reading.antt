-- What was read of a file, with lists lent that are long enough for every file.
use Prim.Native.Nat.{ℕ, ◌-◌, ◌≤◌, ◌<◌}
use mathlib.Core.Path.{◌≡◌, refl, ap, sym, ◌∙◌}
use mathlib.Core.List.{List}
use native.Mathlib.Omega.{arith}
use lib.IntN.{ℤ, pos}
use lib.ListN.{take, replicate, length-replicate}
use Rattle.theory_lists.specs.Lent.{lent_list, list-filled}
use Rattle.theory_lists.specs.ListOf.{list_of, take-written}
use Rattle.session.specs.Opening.{profile}
use Rattle.session_cuts.specs.Sheet.{cuts_of}
use Rattle.file_format.specs.Format.{day_count, cut_count, floor_at, ceiling_at, rise_at, numbers_in, profile_in, cuts_in}
use Rattle.file_format.specs.Reading.{early_reading}
use Rattle.file_format.proofs.Taken.{not-refused}
use Rattle.file_reading.specs.Reading.{ReadAnswer, sheet_from, contents, read_from}
use Rattle.file_reading.proofs.Laws.{read_taken, sheet_cuts}

-- what is handed on of a file that is not refused: its profile and its cuts
pub record Got (b : List ℕ) (r : ReadAnswer) (fs cs rs : List ℤ) : Type 0 where
  pub none : early_reading b ≡ 0
  pub some : 0 < r.numbers.days
  pub few : r.numbers.days ≤ 512
  pub entered : profile r.numbers (take r.numbers.days fs) (take r.numbers.days cs) (take (r.numbers.days - 1) rs) ≡ profile_in b
  pub few_cuts : r.sheet.count ≤ 512
  pub cuts : cuts_of r.sheet ≡ cuts_in b

-- what `read` gave where it refused nothing
pub record Unrefused (b : List ℕ) (r : ReadAnswer) (fs cs rs : List ℤ) : Type 0 where
  pub answer : r ≡ read_from b 512 512 511
  pub passed : r.refusal ≡ 0
  pub floors : fs ≡ lent_list r.refusal (floor_at b) (day_count b) (replicate 512 (pos 0))
  pub ceilings : cs ≡ lent_list r.refusal (ceiling_at b) (day_count b) (replicate 512 (pos 0))
  pub rises : rs ≡ lent_list r.refusal (rise_at b) (day_count b - 1) (replicate 511 (pos 0))

module _ (b : List ℕ) {r : ReadAnswer} {fs cs rs : List ℤ} (u : Unrefused b r fs cs rs) where
  lent : {l : List ℤ} (g : ℕ → ℤ) (n m : ℕ) → l ≡ lent_list r.refusal g n (replicate m (pos 0)) → n ≤ m → take n l ≡ list_of g n
  lent g n m q h =
      ap (take n) (q ∙ list-filled r.refusal g n (replicate m (pos 0)) u.passed) ∙ take-written g n (replicate m (pos 0)) (omega (arith, length-replicate m (pos 0)))

  pub got : Got b r fs cs rs
  unfolding contents sheet_from profile_in
  got =
      let whole = read_taken b 512 512 511 (sym (ap (λ a. a.refusal) u.answer) ∙ u.passed) in
      let all : r ≡ contents b = u.answer ∙ whole.0 in
      let t = whole.1 in
      let m : r.numbers ≡ numbers_in b = ap (λ a. a.numbers) all in
      let count : r.sheet.count ≡ cut_count b = ap (λ a. a.sheet.count) all in
      let low = lent (floor_at b) (day_count b) 512 u.floors t.few in
      let high = lent (ceiling_at b) (day_count b) 512 u.ceilings t.few in
      let steps = lent (rise_at b) (day_count b - 1) 511 u.rises (omega (arith, t.few)) in
      record {
        none = not-refused b t;
        some = rw m t.some;
        few = rw m t.few;
        entered = rw (m, low, high, steps) refl;
        few_cuts = rw count t.few_cuts;
        cuts = ap (λ a. cuts_of a.sheet) all ∙ sheet_cuts b t.few_cuts;
      }
