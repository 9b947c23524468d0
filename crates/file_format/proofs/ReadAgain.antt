-- A written file, read again.
use Rattle.std.specs.Prelude.{Some}
use mathlib.Core.Path.{◌≡◌, refl, ap, ◌∙◌}
use mathlib.Core.Bool.{true, false}
use mathlib.Core.List.{List}
use Prim.Native.Nat.{ℕ, ◌+◌, ◌-◌, ◌≤◌, ◌<◌, ◌^◌}
use native.Mathlib.Omega.{arith}
use lib.IntN.{ℤ, pos}
use lib.ListN.{length, get_or-eq_default}
use lib.Dec.{ltb}
use borrow.Author.Tests.{ltb-false}
use mir.Syntax.{Width, w16, w32}
use mir.Val.{SFits, hbits}
use mir.Facts.{sfits_widen}
use Rattle.limits.specs.Limits.{lowest_point, highest_point, lowest_rise, highest_rise, lowest_total, highest_total}
use Rattle.theory_lists.specs.Checks.{cond-zero, then_zero}
use Rattle.theory_lists.specs.First.{nonzero-none}
use Rattle.theory_lists.specs.ListOf.{list_of, list_of-all}
use Rattle.theory_lists.specs.Part.{part_all}
use Rattle.base_codes.specs.Code.{within, code, on}
use Rattle.base_codes.proofs.Offset.{Less}
use Rattle.base_codes.proofs.Laws.{point_less, rise_less, total_less, within_less, code-most}
use Rattle.base_codes.proofs.Casts.{less_fits}
use Rattle.base_little_endian.specs.Fields.{u16_at}
use Rattle.base_little_endian.proofs.Laws.{u16-read, i16_read, i32_read, zero-read}
use Rattle.session.specs.Profile.{Profile}
use Rattle.session.specs.Opening as Opening
use Rattle.session.proofs.Entered.{Entered, entered}
use Rattle.session_cuts.specs.declared.Cut.{Cut}
use Rattle.session_cuts.specs.declared.Cut.TheVariants.{DayFloor, DayCeiling, TotalFloor, TotalCeiling}
use Rattle.session_cuts.specs.Numbered.{numbered}
use Rattle.session_cuts.specs.Sheet.{cut_on, kind_of, day_of, value_of}
use Rattle.session_cutting.specs.Cutting.{malformed}
use Rattle.session_cutting.proofs.Laws.{day-formed, total-formed}
use Rattle.file_format.specs.Format.{day_offset, day_count, cut_count, total_floor_at, total_ceiling_at, floor_at, ceiling_at, rise_at, cut_at, known, numbers_in, profile_in, cuts_in, file}
use Rattle.file_format.specs.Reading.{misplaced}
use Rattle.file_format.specs.Writing as Writing
use Rattle.file_format.proofs.Parts.{Laid, laid, length-file, Header, header_fields, Day, day_fields, cut_fields}
use Rattle.file_format.proofs.Taken.{Taken}

-- a number within bounds has as many bits as the bounds
within-fits : (w : Width) (low high z : ℤ) (k : ℕ) → Less low 0 k → code low high < 2 ^ hbits w → k ≤ 2 ^ hbits w → within low high z ≡ true → SFits w z
within-fits w low high z k p h l e = less_fits w z (code low z) k (within_less low high z k p e) (omega (arith, code-most low high z e)) l

point_fits : (z : ℤ) → within lowest_point highest_point z ≡ true → SFits w16 z
point_fits z = within-fits w16 lowest_point highest_point z 1000 point_less (omega arith) (omega arith)

rise-fits : (z : ℤ) → within lowest_rise highest_rise z ≡ true → SFits w16 z
rise-fits z = within-fits w16 lowest_rise highest_rise z 2000 rise_less (omega arith) (omega arith)

total-fits : (z : ℤ) → within lowest_total highest_total z ≡ true → SFits w32 z
total-fits z = within-fits w32 lowest_total highest_total z 512000 total_less (omega arith) (omega arith)

value_fits : (n : ℕ) (c : Cut) → malformed n c ≡ 0 → SFits w32 (value_of c)
value_fits n (DayFloor day value) e = sfits_widen tt (point_fits value (day-formed n day value e).1)
value_fits n (DayCeiling day value) e = sfits_widen tt (point_fits value (day-formed n day value e).1)
value_fits n (TotalFloor day value) e = total-fits value (total-formed day value e).1
value_fits n (TotalCeiling day value) e = total-fits value (total-formed day value e).1

placed : (n : ℕ) (c : Cut) → malformed n c ≡ 0 → misplaced c ≡ false
placed n (DayFloor day value) e = refl
placed n (DayCeiling day value) e = refl
placed n (TotalFloor day value) e = rw (total-formed day value e).0 refl
placed n (TotalCeiling day value) e = rw (total-formed day value e).0 refl

numbered-back : (c : Cut) → numbered (kind_of c) (day_of c) (value_of c) ≡ Some c
unfolding numbered
numbered-back (DayFloor day value) = refl
numbered-back (DayCeiling day value) = refl
numbered-back (TotalFloor day value) = refl
numbered-back (TotalCeiling day value) = refl

-- what the writer's checks let pass
pub record Passed (p : Profile) (cs : List Cut) : Type 0 where
  pub few_cuts : length cs ≤ 512
  pub early : Opening.early_opening p ≡ 0
  pub formed : (j : ℕ) → j < length cs → malformed p.days (cut_on cs j) ≡ 0

pub passed : (p : Profile) (cs : List Cut) → Writing.early_writing p cs ≡ 0 → Passed p cs
unfolding Writing.early_writing
passed p cs e =
    let c1 = cond-zero (ltb 512 (length cs)) 0 _ e in
    let c2 = then_zero (Opening.early_opening p) _ c1.1 in
    record {
      few_cuts = ltb-false 512 (length cs) c1.0;
      early = c2.0;
      formed = nonzero-none (λ j. malformed p.days (cut_on cs j)) (length cs) c2.1;
    }

module _ (p : Profile) (cs : List Cut) (w : Passed p cs) where
  b : List ℕ
  b = file p cs

  entry : Entered p
  entry = entered p w.early

  parts : Laid p cs b
  unfolding b
  parts = laid p cs (part_all (file p cs))

  head : Header b (Opening.numbers_of p) (length cs)
  head = header_fields (Opening.numbers_of p) (length cs) parts.top

  days : day_count b ≡ p.days
  days = u16-read p.days head.days

  cuts : cut_count b ≡ length cs
  cuts = u16-read (length cs) head.cuts

  day : (k : ℕ) → k < p.days → Day b (day_offset k) (on p.floors k) (on p.ceilings k) (on p.rises k)
  day k h = day_fields (on p.floors k) (on p.ceilings k) (on p.rises k) (parts.day k h)

  floor : (k : ℕ) → k < p.days → floor_at b k ≡ on p.floors k
  floor k h = i16_read (on p.floors k) (point_fits (on p.floors k) (entry.floor k h)) (day k h).floor

  ceiling : (k : ℕ) → k < p.days → ceiling_at b k ≡ on p.ceilings k
  ceiling k h = i16_read (on p.ceilings k) (point_fits (on p.ceilings k) (entry.ceiling k h)) (day k h).ceiling

  rise : (k : ℕ) → k < p.days - 1 → rise_at b k ≡ on p.rises k
  rise k h = i16_read (on p.rises k) (rise-fits (on p.rises k) (entry.rise k h)) (day k (omega arith)).rise

  cut : (j : ℕ) → j < length cs → cut_at b j ≡ Some (cut_on cs j)
  cut j h =
      let f = cut_fields (cut_on cs j) (parts.cut j h) in
      rw (days, u16-read (kind_of (cut_on cs j)) f.kind, u16-read (day_of (cut_on cs j)) f.day, i32_read (value_of (cut_on cs j)) (value_fits p.days (cut_on cs j) (w.formed j h)) f.value)
      (numbered-back (cut_on cs j))

  last : u16_at b (day_offset (p.days - 1) + 4) ≡ 0
  last =
      let past : on p.rises (p.days - 1) ≡ pos 0 = get_or-eq_default p.rises (pos 0) (omega (arith, entry.sized.rises)) in
      zero-read (rw past at (day (p.days - 1) (omega (arith, entry.sized.some))).rise)

  pub read_again : Taken (file p cs)
  unfolding b
  read_again =
      record {
        some = rw days entry.sized.some;
        few = rw days entry.sized.few;
        few_cuts = rw cuts w.few_cuts;
        days = u16-read 18 head.days_offset;
        cuts = u16-read (day_offset p.days) head.cuts_offset ∙ rw days refl;
        whole = length-file p cs ∙ rw (days, cuts) refl;
        last = rw days last;
        good = λ j h. rw (cut j (omega (arith, cuts))) (placed p.days (cut_on cs j) (w.formed j (omega (arith, cuts))));
      }

  pub profile-again : profile_in (file p cs) ≡ p
  unfolding b profile_in
  profile-again =
      let floors : list_of (floor_at b) p.days ≡ p.floors = list_of-all (floor_at b) (pos 0) p.days p.floors entry.sized.floors floor in
      let ceilings : list_of (ceiling_at b) p.days ≡ p.ceilings = list_of-all (ceiling_at b) (pos 0) p.days p.ceilings entry.sized.ceilings ceiling in
      let rises : list_of (rise_at b) (p.days - 1) ≡ p.rises = list_of-all (rise_at b) (pos 0) (p.days - 1) p.rises entry.sized.rises rise in
      let lowest : total_floor_at b ≡ p.lowest = i32_read p.lowest (total-fits p.lowest entry.lowest) head.lowest in
      let highest : total_ceiling_at b ≡ p.highest = i32_read p.highest (total-fits p.highest entry.highest) head.highest in
      let first : (numbers_in b).first ≡ p.first = u16-read p.first head.first in
      rw (days, first, floors, ceilings, rises, lowest, highest) refl

  pub cuts-again : cuts_in (file p cs) ≡ cs
  unfolding b cuts_in
  cuts-again = rw cuts (list_of-all (λ j. known (cut_at b j)) (DayFloor 0 (pos 0)) (length cs) cs refl (λ j h. ap known (cut j h)))
