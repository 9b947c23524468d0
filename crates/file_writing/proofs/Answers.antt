-- What `write` gives and leaves in its output, by the checks that refuse and by the bytes that it stores.
use Rattle.std.specs.Prelude.{Result, Ok, Err}
use Prim.Native.Nat.{ℕ, ◌+◌, ◌*◌, ◌≤◌, ◌<◌}
use mathlib.Core.Path.{◌≡◌, refl, ap, sym, ◌∙◌}
use mathlib.Core.List.{List}
use native.Mathlib.Omega.{arith}
use lib.ListN.{length, get_or}
use lib.Seq.{sets}
use borrow.Author.Tests.{lt-ltb, le-ltb, ne_eqb}
use Rattle.theory_lists.specs.First.{first_nonzero, nonzero-same, nonzero-none}
use Rattle.theory_lists.specs.Rows.{rows, rows_same, front-sets}
use Rattle.refusals.specs.declared.Refusal.{Refusal}
use Rattle.refusals.specs.declared.Refusal.TheVariants.{Count, Length}
use Rattle.refusals.specs.Number.{refusal_number}
use Rattle.refusals.proofs.Laws.{refused}
use Rattle.session.specs.Profile.{Profile}
use Rattle.session.specs.Opening as Opening
use Rattle.session.proofs.Entered.{entered}
use Rattle.session_cuts.specs.declared.Sheet.{Sheet}
use Rattle.session_cuts.specs.Sheet.{blank, cut_on, cuts_of, day_of}
use Rattle.session_cuts.proofs.Laws.{length-cuts_of, cut_on-cuts_of}
use Rattle.session_cutting.specs.Cutting.{malformed}
use Rattle.session_cutting.proofs.Laws.{formed-day}
use Rattle.file_format.specs.Format.{cut_length, day_offset, file_length, header, cut_bytes, day_row, file}
use Rattle.file_format.proofs.Parts.{length-file, parts_stored}
use Rattle.file_format.specs.Writing.{early_writing, writing_refusal}
use Rattle.file_writing.specs.Writing.{write_as, write_answer, output}

-- what is answered, and the output afterwards, where it was l
abbrev pub Answers : Profile → Sheet → List ℕ → Result ℕ Refusal → List ℕ → Type 0
Answers p s l r out = (write_as r ≡ write_answer p (cuts_of s) (length l)) × (out ≡ output p (cuts_of s) l)

-- the answer by another name
pub value_told : (p : Profile) (s : Sheet) (l : List ℕ) {out : List ℕ} {x : Result ℕ Refusal} (r : Refusal) → x ≡ Err r → Answers p s l (Err r) out
    → write_as x ≡ write_answer p (cuts_of s) (length l)
value_told p s l r e all = rw e all.0

-- the first refusal of the entries, or 0
abbrev pub entries_refusal : Profile → Sheet → ℕ
entries_refusal p s = first_nonzero (λ j. malformed p.days (get_or s.entries j blank).cut) s.count

-- no check before the cuts' own refuses
pub record Opens (p : Profile) (s : Sheet) : Type 0 where
  pub few : s.count ≤ 512
  pub profile : Opening.early_opening p ≡ 0

-- no check before the output's length refuses
pub record Checked (p : Profile) (s : Sheet) : Type 0 where
  pub opens : Opens p s
  pub formed : entries_refusal p s ≡ 0

-- the cuts begin at from, the output has room, and the three parts of the file were stored in it one after another
pub record Stored (p : Profile) (s : Sheet) (from : ℕ) (l a b out : List ℕ) : Type 0 where
  pub place : from ≡ day_offset p.days
  pub room : from + s.count * cut_length ≤ length l
  pub header_stored : a ≡ sets l 0 (header (Opening.numbers_of p) s.count)
  pub days_stored : b ≡ sets a 18 (rows (day_row p) p.days)
  pub cuts_stored : out ≡ sets b from (rows (λ j. cut_bytes (get_or s.entries j blank).cut) s.count)

-- ---- refused

by_cuts : (p : Profile) (s : Sheet) → Opens p s → early_writing p (cuts_of s) ≡ entries_refusal p s
unfolding early_writing
by_cuts p s o =
    rw (length-cuts_of s, le-ltb 512 s.count o.few, o.profile)
    (nonzero-same (λ j. malformed p.days (cut_on (cuts_of s) j)) (λ j. malformed p.days (get_or s.entries j blank).cut) s.count
    (λ j h. ap (malformed p.days) (cut_on-cuts_of s j h)))

module _ (p : Profile) (s : Sheet) (l : List ℕ) where
  refused_by : (r : Refusal) → writing_refusal p (cuts_of s) (length l) ≡ refusal_number r → Answers p s l (Err r) l
  unfolding write_answer output
  refused_by r e = let test = ne_eqb (refusal_number r) 0 (refused r) in (rw (e, test), rw (e, test))

  early : (r : Refusal) → refusal_number r ≡ early_writing p (cuts_of s) → Answers p s l (Err r) l
  unfolding writing_refusal
  early r e = refused_by r (rw (← e, ne_eqb (refusal_number r) 0 (refused r)))

  pub too_many : 512 < s.count → Answers p s l (Err Count) l
  unfolding early_writing
  too_many h = early Count (rw (length-cuts_of s, lt-ltb 512 s.count h))

  pub bad_profile : (r : Refusal) → s.count ≤ 512 → refusal_number r ≡ Opening.early_opening p → Answers p s l (Err r) l
  unfolding early_writing
  bad_profile r few e = early r (rw (length-cuts_of s, le-ltb 512 s.count few, ← e, ne_eqb (refusal_number r) 0 (refused r)))

  pub bad_cut_lem : (r : Refusal) → Opens p s → refusal_number r ≡ entries_refusal p s → Answers p s l (Err r) l
  bad_cut_lem r o e = early r (e ∙ sym (by_cuts p s o))

  pub too_short : Checked p s → length l < file_length p.days s.count → Answers p s l (Err Length) l
  unfolding writing_refusal
  too_short c h = refused_by Length (rw (by_cuts p s c.opens, c.formed, length-cuts_of s, lt-ltb (length l) (file_length p.days s.count) h))

-- ---- written

module _ (p : Profile) (s : Sheet) (c : Checked p s) where
  -- each entry's day fits its field
  pub entry_day : (j : ℕ) → j < s.count → day_of (get_or s.entries j blank).cut < 65536
  entry_day j h =
      let z = (entered p c.opens.profile).sized in
      omega (arith, formed-day p.days (get_or s.entries j blank).cut (nonzero-none (λ i. malformed p.days (get_or s.entries i blank).cut) s.count c.formed j h) z.some, z.few)

  module _ {from : ℕ} {l a b out : List ℕ} (w : Stored p s from l a b out) where
    accepted : writing_refusal p (cuts_of s) (length l) ≡ 0
    unfolding writing_refusal
    accepted = rw (by_cuts p s c.opens, c.formed, length-cuts_of s, le-ltb (length l) (file_length p.days s.count) (omega (arith, w.place, w.room))) refl

    -- the three parts are the file
    whole : out ≡ sets l 0 (file p (cuts_of s))
    whole =
        let cuts = rows_same (λ j. cut_bytes (cut_on (cuts_of s) j)) (λ j. cut_bytes (get_or s.entries j blank).cut) s.count (λ j u. ap cut_bytes (cut_on-cuts_of s j u)) in
        parts_stored p (cuts_of s) l (rw (length-cuts_of s) w.header_stored) w.days_stored (rw (length-cuts_of s, cuts, ← w.place) w.cuts_stored)

    pub written : Answers p s l (Ok (from + s.count * cut_length)) out
    unfolding write_answer output
    written =
        (rw (accepted, length-cuts_of s, w.place) refl, rw accepted (whole ∙ front-sets (file p (cuts_of s)) l (omega (arith, w.place, w.room, length-file p (cuts_of s), length-cuts_of s))))
