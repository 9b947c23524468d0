-- A file that the reader takes, written back byte for byte.
use Rattle.std.specs.Prelude.{None}
use mathlib.Core.Path.{◌≡◌, refl, sym, ◌∙◌}
use mathlib.Core.Bool.{true≢false}
use mathlib.Core.List.{List}
use Prim.Native.Nat.{ℕ, zero, suc, ◌+◌, ◌-◌, ◌<◌}
use native.Mathlib.Omega.{arith}
use native.Mathlib.Decide.{dec_lt}
use lib.IntN.{ℤ, pos}
use lib.ListN.{length, get_or-eq_default}
use borrow.Author.Tests.{ne_eqb}
use Rattle.theory_lists.specs.ListOf.{list_of, length-list_of, get_list_of}
use Rattle.theory_lists.specs.Part.{Part, part_same}
use Rattle.base_codes.specs.Code.{on}
use Rattle.base_little_endian.specs.Fields.{Bytes, u16_at, i32_at, i16_bytes}
use Rattle.base_little_endian.proofs.Laws.{u16_part, i16_part, i32_part, zero_part}
use Rattle.session_cuts.specs.declared.Cut.TheVariants.{DayFloor}
use Rattle.session_cuts.specs.Numbered.{numbered}
use Rattle.session_cuts.specs.Sheet.{cut_on, kind_of, day_of, value_of}
use Rattle.file_format.specs.Format.{day_offset, cut_offset, day_count, cut_count, floor_at, ceiling_at, rise_at, numbered_at, cut_at, known, numbers_in, profile_in, cuts_in, cut_bytes, file}
use Rattle.file_format.proofs.Parts.{Laid, laid_part, length-file, Header, header_part, Day, day_part, cut_part}
use Rattle.file_format.proofs.Taken.{Taken}

numbered_far : (kind day : ℕ) (value : ℤ) → 3 < kind → numbered kind day value ≡ None
unfolding numbered
numbered_far kind day value h =
    rw (ne_eqb kind 0 (λ e. omega arith), ne_eqb kind 1 (λ e. omega arith), ne_eqb kind 2 (λ e. omega arith), ne_eqb kind 3 (λ e. omega arith)) refl

numbered_kind : (kind day : ℕ) (value : ℤ) → (numbered kind day value ≡ None → ⊥)
    → (kind_of (known (numbered kind day value)) ≡ kind) × (day_of (known (numbered kind day value)) ≡ day) × (value_of (known (numbered kind day value)) ≡ value)
unfolding numbered
numbered_kind zero day value h = (refl, refl, refl)
numbered_kind (suc zero) day value h = (refl, refl, refl)
numbered_kind (suc (suc zero)) day value h = (refl, refl, refl)
numbered_kind (suc (suc (suc zero))) day value h = (refl, refl, refl)
numbered_kind (suc (suc (suc (suc k)))) day value h = absurd (h (numbered_far (suc (suc (suc (suc k)))) day value (omega arith)))

-- a cut of a known kind has the bytes that it is read from
pub cut-back : {b : List ℕ} → Bytes b → (i : ℕ) → (numbered_at b i ≡ None → ⊥) → Part b i (cut_bytes (known (numbered_at b i)))
cut-back {b} bytes i h =
    let numbered-so = numbered_kind (u16_at b i) (u16_at b (i + 2)) (i32_at b (i + 4)) h in
    cut_part (known (numbered_at b i))
    (record {
      kind = rw numbered-so.0 (u16_part bytes i);
      day = rw numbered-so.1 (u16_part bytes (i + 2));
      value = rw numbered-so.2 (i32_part bytes (i + 4));
    })

module _ (b : List ℕ) (bytes : Bytes b) (t : Taken b) where
  n : ℕ
  n = day_count b

  count : length (cuts_in b) ≡ cut_count b
  unfolding cuts_in
  count = length-list_of (λ j. known (cut_at b j)) (cut_count b)

  top : Header b (numbers_in b) (length (cuts_in b))
  top =
      record {
        days = u16_part bytes 0;
        cuts = rw count (u16_part bytes 2);
        days_offset = rw t.days at (u16_part bytes 4);
        cuts_offset = rw t.cuts at (u16_part bytes 6);
        lowest = i32_part bytes 8;
        highest = i32_part bytes 12;
        first = u16_part bytes 16;
      }

  -- the rise of day k as it is written, the last one too
  rise : (k : ℕ) → k < day_count b → Part b (day_offset k + 4) (i16_bytes (on (list_of (rise_at b) (day_count b - 1)) k))
  rise k h = go (dec_lt k (day_count b - 1))
    where
      go : Dec (k < day_count b - 1) → Part b (day_offset k + 4) (i16_bytes (on (list_of (rise_at b) (day_count b - 1)) k))
      go (yes l) = rw (get_list_of (rise_at b) (pos 0) (day_count b - 1) k l) (i16_part bytes (day_offset k + 4))
      go (no l) =
          let e : k ≡ day_count b - 1 = omega arith in
          let past : on (list_of (rise_at b) (day_count b - 1)) k ≡ pos 0 = get_or-eq_default (list_of (rise_at b) (day_count b - 1)) (pos 0) (omega (arith, length-list_of (rise_at b) (day_count b - 1))) in
          rw past (zero_part bytes (day_offset k + 4) (rw (sym e) at t.last))

  day : (k : ℕ) → k < day_count b → Day b (day_offset k) (on (profile_in b).floors k) (on (profile_in b).ceilings k) (on (profile_in b).rises k)
  unfolding profile_in
  day k h =
      record {
        floor = rw (get_list_of (floor_at b) (pos 0) (day_count b) k h) (i16_part bytes (day_offset k));
        ceiling = rw (get_list_of (ceiling_at b) (pos 0) (day_count b) k h) (i16_part bytes (day_offset k + 2));
        rise = rise k h;
      }

  cut : (j : ℕ) → j < cut_count b → Part b (cut_offset (day_count b) j) (cut_bytes (cut_on (cuts_in b) j))
  unfolding cuts_in
  cut j h =
      rw (get_list_of (λ k. known (cut_at b k)) (DayFloor 0 (pos 0)) (cut_count b) j h)
      (cut-back bytes (cut_offset (day_count b) j) (λ u. true≢false (rw u at (t.good j h))))

  all : Laid (profile_in b) (cuts_in b) b
  unfolding profile_in
  all =
      record {
        top = header_part (numbers_in b) (length (cuts_in b)) top;
        day = λ k h. day_part (on (profile_in b).floors k) (on (profile_in b).ceilings k) (on (profile_in b).rises k) (day k h);
        cut = λ j h. cut j (omega (arith, count));
      }

  pub written_back : file (profile_in b) (cuts_in b) ≡ b
  unfolding profile_in
  written_back = part_same (file (profile_in b) (cuts_in b)) (length-file (profile_in b) (cuts_in b) ∙ rw count (sym t.whole)) (laid_part (profile_in b) (cuts_in b) all)
