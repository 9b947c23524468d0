-- Decoding gives numbers in bounds, and what was encoded, where the cells past the last day are 0.
use mathlib.Core.Path.{◌≡◌, refl, sym, ◌∙◌}
use mathlib.Core.Bool.{Bool, true, false, cond, not}
use mathlib.Core.List.{List, ◌++◌}
use Prim.Native.Nat.{ℕ, ◌+◌, ◌-◌, ◌*◌, ◌≤◌, ◌<◌, min}
use native.Mathlib.Omega.{arith}
use native.Mathlib.Decide.{dec_lt}
use lib.Dec.{eqb}
use lib.ListN.{length, length-append, replicate, length-replicate, get_or-replicate}
use lib.Seq.{ext_get_or}
use Rattle.limits.specs.Limits.{lowest_total, highest_total}
use Rattle.theory_lists.specs.Sum.{at}
use Rattle.theory_lists.specs.Written.{length-written, written_below, written-past}
use Rattle.base_codes.specs.Code.{within, code, decoded}
use Rattle.base_codes.proofs.Laws.{total_less, decoded_less, within-yes, code-decoded, total-most}
use Rattle.theory_method.specs.Filter.{zeros}
use Rattle.base_little_endian.specs.Fields.{u16_at, i32_at, u16_bytes, i32_bytes}
use Rattle.session.specs.Showing.{Fits}
use Rattle.session.specs.declared.Ranges.{Ranges}
use Rattle.session.specs.declared.Session.{Session}
use mir.Syntax.{w32}
use Rattle.theory_lists.specs.Rows.{rows}
use Rattle.theory_lists.specs.Part.{Part, part_left, part_right, part_both, part_row, part_all}
use Rattle.base_codes.proofs.Offset.{less_le}
use Rattle.base_codes.proofs.Casts.{less_fits}
use Rattle.base_little_endian.proofs.Laws.{u16-length, i32_length, u16-read, i32_read}
use Rattle.c_lists.specs.Lists.{cell_bytes}
use Rattle.c_layout.proofs.Lengths.{totals-length, block_length_lem}
use Rattle.c_layout.specs.Storing.{DecodingInBounds, Padded, DecodingEncoding}
use Rattle.c_layout.specs.Layout.{encoding, block_bytes, total_bytes, cells_at, total_at, ranges_at, days_at, first_at, decoding}

-- ---- in bounds

module _ (b : List ℕ) (n : ℕ) (few : n ≤ 512) where
  length_cells : (most place : ℕ) → length (cells_at b n most place) ≡ 512
  length_cells most place = length-written (λ k. min (u16_at b (place + k * 2)) most) n zeros ∙ length-replicate {A = ℕ} 512 0

  pub cell : (most place k : ℕ) → k < n → at (cells_at b n most place) k ≡ min (u16_at b (place + k * 2)) most
  cell most place k h = written_below (λ j. min (u16_at b (place + j * 2)) most) 0 n zeros k h (omega (arith, length-replicate {A = ℕ} 512 0))

total-small : (b : List ℕ) (place : ℕ) → total_at b place ≤ 2560000
total-small b place = go (within lowest_total highest_total (i32_at b place)) refl
  where
    go : (t : Bool) → within lowest_total highest_total (i32_at b place) ≡ t → cond t (code lowest_total (i32_at b place)) 0 ≤ 2560000
    go true e = total-most (i32_at b place) e
    go false e = omega arith

fits : (b : List ℕ) (totals place : ℕ) → Fits (cells_at b (days_at b) 4000 20) (days_at b) (first_at b) (ranges_at b (days_at b) totals place)
unfolding ranges_at
fits b totals place =
    let n = days_at b in
    let few : n ≤ 512 = omega arith in
    record {
      counts = omega arith;
      most = few;
      floors = length_cells b n few 5000 place;
      ceilings = length_cells b n few 5000 (place + 1024);
      rises = length_cells b n few 4000 20;
      floor = λ k h. omega (arith, cell b n few 5000 place k h);
      ceiling = λ k h. omega (arith, cell b n few 5000 (place + 1024) k h);
      rise = λ k h. omega (arith, cell b n few 4000 20 k h);
      lowest = total-small b totals;
      highest = total-small b (totals + 4);
    }

pub decoding_in_bounds : DecodingInBounds
unfolding decoding
decoding_in_bounds b = record { opened = fits b 4 1044; present = fits b 12 3092 }

-- ---- what was encoded

-- cells as a session holds them: 512 in all, the first n of them at most so large, and 0 past those
record Cells (n most : ℕ) (cells : List ℕ) : Type 0 where
  pub few : n ≤ 512
  pub whole : length cells ≡ 512
  pub small : (k : ℕ) → k < n → at cells k ≤ most
  pub past : Padded n cells

module _ {b : List ℕ} where
  total-read : {i : ℕ} (t : ℕ) → t ≤ 2560000 → Part b i (i32_bytes (decoded lowest_total t)) → total_at b i ≡ t
  total-read t h p =
      let d = decoded_less lowest_total t 512000 total_less in
      let e = i32_read (decoded lowest_total t) (less_fits w32 (decoded lowest_total t) t 512000 d (omega arith) (omega arith)) p in
      let low = less_le lowest_total (decoded lowest_total t) 0 t 512000 total_less d (omega arith) in
      let high = less_le (decoded lowest_total t) highest_total t 2560000 512000 d refl h in
      rw (e, (within-yes lowest_total highest_total (decoded lowest_total t)).1 (low, high)) (code-decoded lowest_total t)

  -- a cell of a block
  cell_read : {place n : ℕ} (cells : List ℕ) → Part b place (block_bytes cells n) → (k : ℕ) → k < n → u16_at b (place + k * 2) ≡ at cells k
  unfolding block_bytes cell_bytes
  cell_read {n = n} cells p k h =
      let row : (ℕ → List ℕ) = λ j. u16_bytes (at cells j) in
      u16-read (at cells k) (part_row row 2 n (λ j u. u16-length (at cells j)) (part_left (rows row n) (replicate ((512 - n) * 2) 0) refl p) k h)

  cells_read : {place n : ℕ} (most : ℕ) (cells : List ℕ) → Cells n most cells → Part b place (block_bytes cells n) → cells_at b n most place ≡ cells
  cells_read {place} {n} most cells c p =
      ext_get_or 0 (cells_at b n most place) cells (length_cells b n c.few most place ∙ sym c.whole) (λ k h. go k (omega (arith, length_cells b n c.few most place)) (dec_lt k n))
    where
      go : (k : ℕ) → k < 512 → Dec (k < n) → at (cells_at b n most place) k ≡ at cells k
      go k u (yes h) = omega (arith, cell b n c.few most place k h, cell_read cells p k h, c.small k h)
      go k u (no h) =
          written-past (λ j. min (u16_at b (place + j * 2)) most) 0 n zeros k (omega arith) ∙ get_or-replicate {A = ℕ} 512 k 0 0 u ∙ sym (c.past k (omega arith) u)

  ranges-read : {totals place : ℕ} (rs : List ℕ) (n first : ℕ) (r : Ranges) → Fits rs n first r → Padded n r.floors × Padded n r.ceilings
      → Part b totals (total_bytes r.lowest r.highest) → Part b place (block_bytes r.floors n ++ block_bytes r.ceilings n) → ranges_at b n totals place ≡ r
  unfolding ranges_at total_bytes
  ranges-read rs n first r f past t p =
      let low : List ℕ = block_bytes r.floors n in
      let high : List ℕ = block_bytes r.ceilings n in
      let least : List ℕ = i32_bytes (decoded lowest_total r.lowest) in
      let most : List ℕ = i32_bytes (decoded lowest_total r.highest) in
      let wide = block_length_lem r.floors n f.most in
      let long = i32_length (decoded lowest_total r.lowest) in
      let floors : Cells n 5000 r.floors = record { few = f.most; whole = f.floors; small = f.floor; past = past.0 } in
      let ceilings : Cells n 5000 r.ceilings = record { few = f.most; whole = f.ceilings; small = f.ceiling; past = past.1 } in
      rw (
        cells_read 5000 r.floors floors (part_left low high wide p),
        cells_read 5000 r.ceilings ceilings (part_right low high wide p),
        total-read r.lowest f.lowest (part_left least most long t),
        total-read r.highest f.highest (part_right least most long t),
      )
      refl

mark-read : {m : ℕ} (spent : Bool) → m ≡ cond spent 1 0 → not (eqb m 0) ≡ spent
mark-read true e = rw e refl
mark-read false e = rw e refl

-- ---- the parts of a session's bytes

module _ (s : Session) where
  abbrev pub count : List ℕ
  count = u16_bytes s.days

  abbrev pub mark : List ℕ
  mark = u16_bytes (cond s.spent 1 0)

  abbrev pub opening : List ℕ
  opening = total_bytes s.opened.lowest s.opened.highest

  abbrev pub totals : List ℕ
  totals = total_bytes s.present.lowest s.present.highest

  abbrev pub rises : List ℕ
  rises = block_bytes s.rises s.days

  abbrev pub opened_ranges : List ℕ
  opened_ranges = block_bytes s.opened.floors s.days ++ block_bytes s.opened.ceilings s.days

  abbrev pub present_ranges : List ℕ
  present_ranges = block_bytes s.present.floors s.days ++ block_bytes s.present.ceilings s.days

  abbrev pub counted : List ℕ
  counted = u16_bytes s.first

  pub record Laid (b : List ℕ) : Type 0 where
    pub at0 : Part b 0 count
    pub at2 : Part b 2 mark
    pub at4 : Part b 4 opening
    pub at12 : Part b 12 totals
    pub at20 : Part b 20 rises
    pub at1044 : Part b 1044 opened_ranges
    pub at3092 : Part b 3092 present_ranges
    pub at5140 : Part b 5140 counted

  pub laid : {b : List ℕ} → s.days ≤ 512 → Part b 0 (encoding s) → Laid b
  unfolding encoding
  laid few p =
      let l1 : length (count ++ mark) ≡ 4 = simp (length-append, u16-length) in
      let l2 : length (count ++ mark ++ opening) ≡ 12 = simp (length-append, u16-length, totals-length) in
      let l3 : length (count ++ mark ++ opening ++ totals) ≡ 20 = simp (length-append, u16-length, totals-length) in
      let l4 : length (count ++ mark ++ opening ++ totals ++ rises) ≡ 1044 = simp (length-append, u16-length, totals-length, block_length_lem) in
      let l5 : length (count ++ mark ++ opening ++ totals ++ rises ++ opened_ranges) ≡ 3092 = simp (length-append, u16-length, totals-length, block_length_lem) in
      let l6 : length (count ++ mark ++ opening ++ totals ++ rises ++ opened_ranges ++ present_ranges) ≡ 5140 = simp (length-append, u16-length, totals-length, block_length_lem) in
      let p6 = part_left (count ++ mark ++ opening ++ totals ++ rises ++ opened_ranges ++ present_ranges) counted l6 p in
      let p5 = part_left (count ++ mark ++ opening ++ totals ++ rises ++ opened_ranges) present_ranges l5 p6 in
      let p4 = part_left (count ++ mark ++ opening ++ totals ++ rises) opened_ranges l4 p5 in
      let p3 = part_left (count ++ mark ++ opening ++ totals) rises l3 p4 in
      let p2 = part_left (count ++ mark ++ opening) totals l2 p3 in
      let p1 = part_left (count ++ mark) opening l1 p2 in
      record {
        at0 = part_left count mark (u16-length s.days) p1;
        at2 = part_right count mark (u16-length s.days) p1;
        at4 = part_right (count ++ mark) opening l1 p2;
        at12 = part_right (count ++ mark ++ opening) totals l2 p3;
        at20 = part_right (count ++ mark ++ opening ++ totals) rises l3 p4;
        at1044 = part_right (count ++ mark ++ opening ++ totals ++ rises) opened_ranges l4 p5;
        at3092 = part_right (count ++ mark ++ opening ++ totals ++ rises ++ opened_ranges) present_ranges l5 p6;
        at5140 = part_right (count ++ mark ++ opening ++ totals ++ rises ++ opened_ranges ++ present_ranges) counted l6 p;
      }

-- the parts, put together
pub joined : (s : Session) {b : List ℕ} → s.days ≤ 512 → Laid s b → Part b 0 (encoding s)
unfolding encoding
joined s few l =
    let l0 = u16-length s.days in
    let l1 : length (count s ++ mark s) ≡ 4 = simp (length-append, u16-length) in
    let l2 : length (count s ++ mark s ++ opening s) ≡ 12 = simp (length-append, u16-length, totals-length) in
    let l3 : length (count s ++ mark s ++ opening s ++ totals s) ≡ 20 = simp (length-append, u16-length, totals-length) in
    let l4 : length (count s ++ mark s ++ opening s ++ totals s ++ rises s) ≡ 1044 = simp (length-append, u16-length, totals-length, block_length_lem) in
    let l5 : length (count s ++ mark s ++ opening s ++ totals s ++ rises s ++ opened_ranges s) ≡ 3092 = simp (length-append, u16-length, totals-length, block_length_lem) in
    let l6 : length (count s ++ mark s ++ opening s ++ totals s ++ rises s ++ opened_ranges s ++ present_ranges s) ≡ 5140 = simp (length-append, u16-length, totals-length, block_length_lem) in
    let p1 = part_both (count s) (mark s) l0 l.at0 l.at2 in
    let p2 = part_both (count s ++ mark s) (opening s) l1 p1 l.at4 in
    let p3 = part_both (count s ++ mark s ++ opening s) (totals s) l2 p2 l.at12 in
    let p4 = part_both (count s ++ mark s ++ opening s ++ totals s) (rises s) l3 p3 l.at20 in
    let p5 = part_both (count s ++ mark s ++ opening s ++ totals s ++ rises s) (opened_ranges s) l4 p4 l.at1044 in
    let p6 = part_both (count s ++ mark s ++ opening s ++ totals s ++ rises s ++ opened_ranges s) (present_ranges s) l5 p5 l.at3092 in
    part_both (count s ++ mark s ++ opening s ++ totals s ++ rises s ++ opened_ranges s ++ present_ranges s) (counted s) l6 p6 l.at5140

-- what was encoded is decoded
pub decoding-encoding : DecodingEncoding
unfolding decoding
decoding-encoding s h =
    let z = h.bounds.opened in
    let l = laid s z.most (part_all (encoding s)) in
    let days : days_at (encoding s) ≡ s.days = omega (arith, u16-read s.days l.at0, z.counts, z.most) in
    let first : min (u16_at (encoding s) 5140) (s.days - 1) ≡ s.first = omega (arith, u16-read s.first l.at5140, z.counts) in
    rw (
      days,
      first,
      cells_read 4000 s.rises (record { few = z.most; whole = z.rises; small = z.rise; past = h.rises }) l.at20,
      ranges-read s.rises s.days s.first s.opened z h.opened l.at4 l.at1044,
      ranges-read s.rises s.days s.first s.present h.bounds.present h.present l.at12 l.at3092,
      mark-read s.spent (u16-read (cond s.spent 1 0) l.at2),
    )
    refl
