-- A file's bytes part by part: header, days, cuts.
use Prim.Native.Nat.{ℕ, ◌+◌, ◌<◌}
use mathlib.Core.Path.{◌≡◌, refl}
use mathlib.Core.List.{List, ◌++◌}
use native.Mathlib.Omega.{arith}
use lib.IntN.{ℤ}
use lib.ListN.{length, length-append, drop}
use lib.Seq.{sets, drop-append_seam}
use Rattle.theory_lists.specs.Rows.{rows, length-rows, stored_after}
use Rattle.theory_lists.specs.Part.{Part, part_left, part_right, part_both, part_rows, part_row}
use Rattle.base_codes.specs.Code.{on}
use Rattle.base_little_endian.specs.Fields.{u16_bytes, u32_bytes, i16_bytes, i32_bytes}
use Rattle.base_little_endian.proofs.Laws.{u16-length, i16_length}
use Rattle.session.specs.Profile.{Profile}
use Rattle.session.specs.Opening.{numbers_of}
use Rattle.session.specs.declared.Numbers.{Numbers}
use Rattle.session_cuts.specs.declared.Cut.{Cut}
use Rattle.session_cuts.specs.Sheet.{cut_on, kind_of, day_of, value_of}
use Rattle.file_format.specs.Format.{day_offset, cut_offset, file_length, header, day_bytes, cut_bytes, day_row, file}

-- ---- how long each part is

pub header-length : (m : Numbers) (cuts : ℕ) → length (header m cuts) ≡ 18
unfolding header u16_bytes u32_bytes i32_bytes
header-length m cuts = refl

pub day-length : (floor ceiling rise : ℤ) → length (day_bytes floor ceiling rise) ≡ 6
unfolding day_bytes i16_bytes u16_bytes
day-length floor ceiling rise = refl

pub cut-length : (c : Cut) → length (cut_bytes c) ≡ 8
unfolding cut_bytes u16_bytes u32_bytes i32_bytes
cut-length c = refl

module _ (p : Profile) (cs : List Cut) where
  head : List ℕ
  head = header (numbers_of p) (length cs)

  cut_row : ℕ → List ℕ
  cut_row j = cut_bytes (cut_on cs j)

  row_length : (k : ℕ) → k < p.days → length (day_row p k) ≡ 6
  row_length k h = day-length (on p.floors k) (on p.ceilings k) (on p.rises k)

  cut_row_length : (j : ℕ) → j < length cs → length (cut_row j) ≡ 8
  unfolding cut_row
  cut_row_length j h = cut-length (cut_on cs j)

  head_length : length head ≡ 18
  unfolding head
  head_length = header-length (numbers_of p) (length cs)

  front_length : length (head ++ rows (day_row p) p.days) ≡ day_offset p.days
  front_length = omega (arith, length-append head (rows (day_row p) p.days), head_length, length-rows (day_row p) 6 p.days row_length)

  whole : file p cs ≡ head ++ rows (day_row p) p.days ++ rows cut_row (length cs)
  unfolding file head cut_row
  whole = refl

  pub length-file : length (file p cs) ≡ file_length p.days (length cs)
  length-file =
      rw whole
      (omega (arith, length-append (head ++ rows (day_row p) p.days) (rows cut_row (length cs)), front_length, length-rows cut_row 8 (length cs) cut_row_length))

  -- its cuts stand behind its days
  pub file-cuts : drop (day_offset p.days) (file p cs) ≡ rows (λ j. cut_bytes (cut_on cs j)) (length cs)
  unfolding cut_row
  file-cuts = rw (whole, ← front_length) (drop-append_seam (head ++ rows (day_row p) p.days) (rows cut_row (length cs)))

  -- the three parts, stored one after another
  pub parts_stored : (l : List ℕ) {a b out : List ℕ} → a ≡ sets l 0 (header (numbers_of p) (length cs)) → b ≡ sets a 18 (rows (day_row p) p.days)
      → out ≡ sets b (day_offset p.days) (rows (λ j. cut_bytes (cut_on cs j)) (length cs)) → out ≡ sets l 0 (file p cs)
  unfolding head cut_row
  parts_stored l e f g =
      let z : 0 + day_offset p.days ≡ day_offset p.days = omega arith in
      rw whole
      (stored_after l 0 (day_offset p.days) (head ++ rows (day_row p) p.days) (rows cut_row (length cs)) front_length
      (stored_after l 0 18 head (rows (day_row p) p.days) head_length e f) (rw z g))

  -- b is laid out as the file of p and cs
  pub record Laid (b : List ℕ) : Type 0 where
    pub top : Part b 0 (header (numbers_of p) (length cs))
    pub day : (k : ℕ) → k < p.days → Part b (day_offset k) (day_row p k)
    pub cut : (j : ℕ) → j < length cs → Part b (cut_offset p.days j) (cut_bytes (cut_on cs j))

  module _ {b : List ℕ} where
    pub laid : Part b 0 (file p cs) → Laid b
    unfolding head cut_row
    laid q =
        let z : 0 + day_offset p.days ≡ day_offset p.days = omega arith in
        let front = part_left (head ++ rows (day_row p) p.days) (rows cut_row (length cs)) front_length (rw whole at q) in
        record {
          top = part_left head (rows (day_row p) p.days) head_length front;
          day = part_row (day_row p) 6 p.days row_length (part_right head (rows (day_row p) p.days) head_length front);
          cut = part_row cut_row 8 (length cs) cut_row_length (rw z at (part_right (head ++ rows (day_row p) p.days) (rows cut_row (length cs)) front_length (rw whole at q)));
        }

    pub laid_part : Laid b → Part b 0 (file p cs)
    unfolding head cut_row
    laid_part l =
        let z : 0 + day_offset p.days ≡ day_offset p.days = omega arith in
        rw whole
        (part_both (head ++ rows (day_row p) p.days) (rows cut_row (length cs)) front_length
        (part_both head (rows (day_row p) p.days) head_length l.top (part_rows (day_row p) 6 p.days row_length l.day))
        (rw z (part_rows cut_row 8 (length cs) cut_row_length l.cut)))

-- ---- the fields of each part

pub record Header (b : List ℕ) (m : Numbers) (count : ℕ) : Type 0 where
  pub days : Part b 0 (u16_bytes m.days)
  pub cuts : Part b 2 (u16_bytes count)
  pub days_offset : Part b 4 (u16_bytes 18)
  pub cuts_offset : Part b 6 (u16_bytes (day_offset m.days))
  pub lowest : Part b 8 (i32_bytes m.lowest)
  pub highest : Part b 12 (i32_bytes m.highest)
  pub first : Part b 16 (u16_bytes m.first)

pub record Day (b : List ℕ) (i : ℕ) (low high step : ℤ) : Type 0 where
  pub floor : Part b i (i16_bytes low)
  pub ceiling : Part b (i + 2) (i16_bytes high)
  pub rise : Part b (i + 4) (i16_bytes step)

pub record CutFields (b : List ℕ) (i : ℕ) (c : Cut) : Type 0 where
  pub kind : Part b i (u16_bytes (kind_of c))
  pub day : Part b (i + 2) (u16_bytes (day_of c))
  pub value : Part b (i + 4) (i32_bytes (value_of c))

module _ (m : Numbers) (cuts : ℕ) where
  abbrev two : List ℕ
  two = u16_bytes m.days ++ u16_bytes cuts

  abbrev three : List ℕ
  three = two ++ u16_bytes 18

  abbrev four : List ℕ
  four = three ++ u16_bytes (day_offset m.days)

  abbrev five : List ℕ
  five = four ++ i32_bytes m.lowest

  abbrev six : List ℕ
  six = five ++ i32_bytes m.highest

  module _ {b : List ℕ} where
    pub header_fields : Part b 0 (header m cuts) → Header b m cuts
    unfolding header u16_bytes u32_bytes i32_bytes
    header_fields p =
        let p6 : Part b 0 six = part_left six (u16_bytes m.first) refl p in
        let p5 : Part b 0 five = part_left five (i32_bytes m.highest) refl p6 in
        let p4 : Part b 0 four = part_left four (i32_bytes m.lowest) refl p5 in
        let p3 : Part b 0 three = part_left three (u16_bytes (day_offset m.days)) refl p4 in
        let p2 : Part b 0 two = part_left two (u16_bytes 18) refl p3 in
        record {
          days = part_left (u16_bytes m.days) (u16_bytes cuts) (u16-length m.days) p2;
          cuts = part_right (u16_bytes m.days) (u16_bytes cuts) (u16-length m.days) p2;
          days_offset = part_right two (u16_bytes 18) refl p3;
          cuts_offset = part_right three (u16_bytes (day_offset m.days)) refl p4;
          lowest = part_right four (i32_bytes m.lowest) refl p5;
          highest = part_right five (i32_bytes m.highest) refl p6;
          first = part_right six (u16_bytes m.first) refl p;
        }

    pub header_part : Header b m cuts → Part b 0 (header m cuts)
    unfolding header u16_bytes u32_bytes i32_bytes
    header_part h =
        part_both six (u16_bytes m.first) refl
        (part_both five (i32_bytes m.highest) refl
        (part_both four (i32_bytes m.lowest) refl
        (part_both three (u16_bytes (day_offset m.days)) refl
        (part_both two (u16_bytes 18) refl (part_both (u16_bytes m.days) (u16_bytes cuts) (u16-length m.days) h.days h.cuts) h.days_offset)
        h.cuts_offset)
        h.lowest)
        h.highest)
        h.first

-- a day and a cut have three fields, the third 4 bytes in
module _ (xs ys zs : List ℕ) (e : length xs ≡ 2) (f : length ys ≡ 2) where
  both : length (xs ++ ys) ≡ 4
  both = omega (arith, length-append xs ys)

  module _ {b : List ℕ} {i : ℕ} where
    third_fields : Part b i (xs ++ ys ++ zs) → Part b i xs × Part b (i + 2) ys × Part b (i + 4) zs
    third_fields p =
        let q : Part b i (xs ++ ys) = part_left (xs ++ ys) zs both p in
        (part_left xs ys e q, part_right xs ys e q, part_right (xs ++ ys) zs both p)

    third_part : Part b i xs → Part b (i + 2) ys → Part b (i + 4) zs → Part b i (xs ++ ys ++ zs)
    third_part p q r = part_both (xs ++ ys) zs both (part_both xs ys e p q) r

module _ {b : List ℕ} {i : ℕ} (low high step : ℤ) where
  pub day_fields : Part b i (day_bytes low high step) → Day b i low high step
  unfolding day_bytes
  day_fields p =
      let q = third_fields (i16_bytes low) (i16_bytes high) (i16_bytes step) (i16_length low) (i16_length high) p in
      record { floor = q.0; ceiling = q.1; rise = q.2 }

  pub day_part : Day b i low high step → Part b i (day_bytes low high step)
  unfolding day_bytes
  day_part d = third_part (i16_bytes low) (i16_bytes high) (i16_bytes step) (i16_length low) (i16_length high) d.floor d.ceiling d.rise

module _ {b : List ℕ} {i : ℕ} (c : Cut) where
  pub cut_fields : Part b i (cut_bytes c) → CutFields b i c
  unfolding cut_bytes
  cut_fields p =
      let q = third_fields (u16_bytes (kind_of c)) (u16_bytes (day_of c)) (i32_bytes (value_of c)) (u16-length (kind_of c)) (u16-length (day_of c)) p in
      record { kind = q.0; day = q.1; value = q.2 }

  pub cut_part : CutFields b i c → Part b i (cut_bytes c)
  unfolding cut_bytes
  cut_part d =
      third_part (u16_bytes (kind_of c)) (u16_bytes (day_of c)) (i32_bytes (value_of c)) (u16-length (kind_of c)) (u16-length (day_of c)) d.kind d.day d.value
