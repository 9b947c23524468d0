-- The patch on what was encoded is the encoding of the session with the new ranges: each part of it is stored, or stands where nothing was stored.
use mathlib.Core.Path.{◌≡◌, ap, sym, ◌∙◌}
use mathlib.Core.Bool.{Bool, cond}
use mathlib.Core.List.{List}
use mathlib.Core.Logic.{◌⊎◌, inl, inr}
use Prim.Native.Nat.{ℕ, ◌+◌, ◌-◌, ◌*◌, ◌≤◌}
use native.Mathlib.Omega.{arith}
use lib.ListN.{length, length-append, replicate, length-replicate}
use lib.Seq.{sets, length-sets}
use Rattle.theory_lists.specs.Sum.{at}
use Rattle.theory_lists.specs.Part.{Part, part_left, part_right, part_both, part_all, part_same, part_stored, part_before, part_past}
use Rattle.base_little_endian.proofs.Laws.{u16-length}
use Rattle.session.specs.declared.Ranges.{Ranges}
use Rattle.session.specs.declared.Session.{Session}
use Rattle.c_lists.specs.Lists.{cell_bytes}
use Rattle.c_layout.specs.Layout.{block_bytes, encoding, patched}
use Rattle.c_layout.specs.Storing.{Storable, PatchedEncoding}
use Rattle.c_layout.proofs.Lengths.{totals-length, cells_length, block_length_lem, encoding-length}
use Rattle.c_layout.proofs.Inverse.{Laid, laid, joined, count, mark, opening, totals, rises, opened_ranges, counted}

-- w elements from place i on, and the part ys from k on, have none in common
abbrev Apart : ℕ → List ℕ → ℕ → ℕ → Type 0
Apart k ys i w = (k + length ys ≤ i) ⊎ (i + w ≤ k)

kept : {l : List ℕ} (i : ℕ) (xs : List ℕ) {k w : ℕ} (ys : List ℕ) → length xs ≡ w → Apart k ys i w → Part l k ys → Part (sets l i xs) k ys
kept {l} i xs ys e (inl h) p = part_before l i xs ys h p
kept {l} i xs ys e (inr h) p = part_past l i xs ys (omega arith) p

module _ (s : Session) (few : s.days ≤ 512) (spent : Bool) (r : Ranges) where
  abbrev n : ℕ
  n = s.days

  -- the session with the new ranges
  abbrev t : Session
  t = record { days = n; first = s.first; rises = s.rises; opened = s.opened; present = r; spent = spent }

  abbrev floors : List ℕ
  floors = cell_bytes (at r.floors) n

  abbrev ceilings : List ℕ
  ceilings = cell_bytes (at r.ceilings) n

  -- past the last day
  abbrev zeros : List ℕ
  zeros = replicate ((512 - n) * 2) 0

  -- the bytes, store by store
  abbrev b0 : List ℕ
  b0 = encoding s

  abbrev b1 : List ℕ
  b1 = sets b0 2 (mark t)

  abbrev b2 : List ℕ
  b2 = sets b1 12 (totals t)

  abbrev b3 : List ℕ
  b3 = sets b2 3092 floors

  abbrev b4 : List ℕ
  b4 = sets b3 4116 ceilings

  lengths : (length b0 ≡ 5142) × (length b1 ≡ 5142) × (length b2 ≡ 5142) × (length b3 ≡ 5142) × (length b4 ≡ 5142)
  lengths =
      let e0 = encoding-length s few in
      let e1 = length-sets b0 2 (mark t) ∙ e0 in
      let e2 = length-sets b1 12 (totals t) ∙ e1 in
      let e3 = length-sets b2 3092 floors ∙ e2 in
      (e0, e1, e2, e3, length-sets b3 4116 ceilings ∙ e3)

  -- a part that is kept by the stores that follow each of the first ones
  after3 : {k : ℕ} (ys : List ℕ) → Apart k ys 4116 (n * 2) → Part b3 k ys → Part b4 k ys
  after3 ys a p = kept 4116 ceilings ys (cells_length (at r.ceilings) n) a p

  after2 : {k : ℕ} (ys : List ℕ) → Apart k ys 3092 (n * 2) → Apart k ys 4116 (n * 2) → Part b2 k ys → Part b4 k ys
  after2 ys a b p = after3 ys b (kept 3092 floors ys (cells_length (at r.floors) n) a p)

  after1 : {k : ℕ} (ys : List ℕ) → Apart k ys 12 8 → Apart k ys 3092 (n * 2) → Apart k ys 4116 (n * 2) → Part b1 k ys → Part b4 k ys
  after1 ys a b c p = after2 ys b c (kept 12 (totals t) ys (totals-length r.lowest r.highest) a p)

  after0 : {k : ℕ} (ys : List ℕ) → Apart k ys 2 2 → Apart k ys 12 8 → Apart k ys 3092 (n * 2) → Apart k ys 4116 (n * 2) → Part b0 k ys → Part b4 k ys
  after0 ys a b c d p = after1 ys b c d (kept 2 (mark t) ys (u16-length (cond spent 1 0)) a p)

  -- ---- the parts

  was : Laid s b0
  was = laid s few (part_all b0)

  low : length floors ≡ n * 2
  low = cells_length (at r.floors) n

  high : length ceilings ≡ n * 2
  high = cells_length (at r.ceilings) n

  past : length zeros ≡ (512 - n) * 2
  past = length-replicate ((512 - n) * 2) 0

  -- the zeros past the last day, of the floors and of the ceilings
  tails : Part b0 (3092 + n * 2) zeros × Part b0 (4116 + n * 2) zeros
  unfolding block_bytes
  tails =
      let fs : List ℕ = block_bytes s.present.floors n in
      let cs : List ℕ = block_bytes s.present.ceilings n in
      let f = part_left fs cs (block_length_lem s.present.floors n few) was.at3092 in
      let c = part_right fs cs (block_length_lem s.present.floors n few) was.at3092 in (
        part_right (cell_bytes (at s.present.floors) n) zeros (cells_length (at s.present.floors) n) f,
        part_right (cell_bytes (at s.present.ceilings) n) zeros (cells_length (at s.present.ceilings) n) c,
      )

  block_floors : Part b4 3092 (block_bytes r.floors n)
  unfolding block_bytes
  block_floors =
      part_both floors zeros low
      (after3 floors (inl (omega (arith, low))) (part_stored b2 3092 floors (omega (arith, low, lengths.2))))
      (after0 zeros (inr (omega arith)) (inr (omega arith)) (inr (omega arith)) (inl (omega (arith, past))) tails.0)

  block_ceilings : Part b4 4116 (block_bytes r.ceilings n)
  unfolding block_bytes
  block_ceilings =
      part_both ceilings zeros high (part_stored b3 4116 ceilings (omega (arith, high, lengths.3)))
      (after0 zeros (inr (omega arith)) (inr (omega arith)) (inr (omega arith)) (inr (omega arith)) tails.1)

  now_laid : Laid t b4
  now_laid =
      let days = u16-length n in
      let opened = totals-length s.opened.lowest s.opened.highest in
      let sums = totals-length r.lowest r.highest in
      let steps = block_length_lem s.rises n few in
      let ranges : length (opened_ranges s) ≡ 2048 = simp (length-append, block_length_lem) in
      record {
        at0 = after0 (count s) (inl (omega (arith, days))) (inl (omega (arith, days))) (inl (omega (arith, days))) (inl (omega (arith, days))) was.at0;
        at2 = let e = u16-length (cond spent 1 0) in
            after1 (mark t) (inl (omega (arith, e))) (inl (omega (arith, e))) (inl (omega (arith, e))) (part_stored b0 2 (mark t) (omega (arith, e, lengths.0)));
        at4 = after0 (opening s) (inr (omega arith)) (inl (omega (arith, opened))) (inl (omega (arith, opened))) (inl (omega (arith, opened))) was.at4;
        at12 = after2 (totals t) (inl (omega (arith, sums))) (inl (omega (arith, sums))) (part_stored b1 12 (totals t) (omega (arith, sums, lengths.1)));
        at20 = after0 (rises s) (inr (omega arith)) (inr (omega arith)) (inl (omega (arith, steps))) (inl (omega (arith, steps))) was.at20;
        at1044 = after0 (opened_ranges s) (inr (omega arith)) (inr (omega arith)) (inl (omega (arith, ranges))) (inl (omega (arith, ranges))) was.at1044;
        at3092 = part_both (block_bytes r.floors n) (block_bytes r.ceilings n) (block_length_lem r.floors n few) block_floors block_ceilings;
        at5140 = after0 (counted s) (inr (omega arith)) (inr (omega arith)) (inr (omega arith)) (inr (omega arith)) was.at5140;
      }

  patched_encoded : patched (encoding s) n spent r ≡ encoding t
  unfolding patched
  patched_encoded = sym (part_same (encoding t) (encoding-length t few ∙ sym lengths.4) (joined t few now_laid))

pub patched-encoding : PatchedEncoding
patched-encoding s h spent r = patched_encoded s h.bounds.opened.most spent r

-- so the patch of a session that keeps the rest is its encoding
pub patched-kept : (s e : Session) → Storable s → e.days ≡ s.days → e.first ≡ s.first → e.rises ≡ s.rises → e.opened ≡ s.opened
    → patched (encoding s) e.days e.spent e.present ≡ encoding e
patched-kept s e h days first rises opened =
    rw days (patched-encoding s h e.spent e.present)
    ∙ ap encoding (λ i. record { days = sym days i; first = sym first i; rises = sym rises i; opened = sym opened i; present = e.present; spent = e.spent })
