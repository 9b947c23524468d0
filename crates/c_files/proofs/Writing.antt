-- What `write` gives and leaves in its output, by the checks that refuse and by the bytes that it stores.
use Rattle.std.specs.Prelude.{Result, Ok, Err}
use Prim.Native.Nat.{ℕ, ◌+◌, ◌-◌, ◌*◌, ◌/◌, ◌%◌, ◌≤◌, ◌<◌}
use mathlib.Core.Path.{◌≡◌, refl, sym, ◌∙◌}
use mathlib.Core.List.{List}
use native.Mathlib.Omega.{arith}
use lib.IntN.{ℤ, pos}
use lib.Dec.{eqb, ltb}
use lib.ListN.{length}
use lib.Seq.{sets}
use borrow.Author.Tests.{eqb-true, ltb-false, lt-ltb, le-ltb, ne_eqb}
use Rattle.theory_lists.specs.Checks.{cond-zero, cond-first, then_zero}
use Rattle.theory_lists.specs.First.{first_nonzero, nonzero-none}
use Rattle.theory_lists.specs.ListOf.{length-list_of, get_list_of}
use Rattle.theory_lists.specs.Part.{Part, part_rows, part_same}
use Rattle.theory_lists.specs.Rows.{rows, length-rows, front-sets}
use Rattle.base_codes.specs.Code.{on}
use Rattle.base_little_endian.specs.Fields.{Bytes}
use Rattle.refusals.specs.declared.Refusal.{Refusal}
use Rattle.refusals.specs.declared.Refusal.TheVariants.{Length}
use Rattle.refusals.specs.Number.{refusal_number}
use Rattle.refusals.proofs.Laws.{refused}
use Rattle.session.specs.Profile.{Profile}
use Rattle.session.specs.Opening.{early_opening}
use Rattle.session_cuts.specs.declared.Cut.TheVariants.{DayFloor}
use Rattle.session_cuts.specs.Sheet.{cut_on}
use Rattle.file_format.specs.Format.{day_offset, file_length, numbered_at, known, header, day_bytes, cut_bytes, file}
use Rattle.file_format.proofs.Parts.{cut-length, length-file, parts_stored}
use Rattle.file_format.proofs.WrittenBack.{cut-back}
use Rattle.file_writing.specs.Writing.{write_as}
use Rattle.c_lists.specs.Lists.{points_in}
use Rattle.c_lists.specs.Profiles.{ByteProfile, byte_length_refusal, profile_of}
use Rattle.c_lists.proofs.Laws.{Long, long}
use Rattle.c_files.specs.Writing.{numbered_refusal, cuts_in_bytes, lengths_refusal, early_writing_over, writing_refusal_over, write_over, output_over}

-- what 1 and 2 let pass
pub record Sized (h : ByteProfile) (cuts : ℕ) : Type 0 where
  pub lists : Long h
  pub few : cuts / 8 ≤ 512
  pub whole : cuts ≡ cuts / 8 * 8

pub sized : (h : ByteProfile) (cuts : ℕ) → lengths_refusal (byte_length_refusal h) cuts ≡ 0 → Sized h cuts
unfolding lengths_refusal
sized h cuts e =
    let counts = cond-zero (ltb 512 (cuts / 8)) 0 _ e in
    let lists = then_zero (byte_length_refusal h) _ counts.1 in
    let rest : cuts % 8 ≡ 0 = eqb-true _ _ (cond-first (eqb (cuts % 8) 0) 1 lists.1) in
    record { lists = long h lists.0; few = ltb-false 512 (cuts / 8) counts.0; whole = omega arith }

-- the first refusal of the cuts, or 0
abbrev cuts_refusal : ℕ → List ℕ → ℕ
cuts_refusal n b = first_nonzero (λ j. numbered_refusal n (numbered_at b (j * 8))) (length b / 8)

-- ---- the cuts' bytes

module _ (b : List ℕ) where
  pub length-cuts : length (cuts_in_bytes b) ≡ length b / 8
  unfolding cuts_in_bytes
  length-cuts = length-list_of (λ j. known (numbered_at b (j * 8))) (length b / 8)

  abbrev cut_row : ℕ → List ℕ
  cut_row j = cut_bytes (cut_on (cuts_in_bytes b) j)

  module _ (n : ℕ) (bytes : Bytes b) (none : cuts_refusal n b ≡ 0) where
    row_back : (j : ℕ) → j < length b / 8 → Part b (0 + j * 8) (cut_row j)
    unfolding cuts_in_bytes
    row_back j h =
        let z : 0 + j * 8 ≡ j * 8 = omega arith in
        rw (z, get_list_of (λ k. known (numbered_at b (k * 8))) (DayFloor 0 (pos 0)) (length b / 8) j h)
        (cut-back bytes (j * 8) (λ u. let x : ◌≡◌ {A = ℕ} 12 0 = rw u at (nonzero-none (λ k. numbered_refusal n (numbered_at b (k * 8))) (length b / 8) none j h) in omega arith))

    -- cuts of known kinds have the bytes that they are read from
    pub cuts_back : length b ≡ length b / 8 * 8 → rows cut_row (length (cuts_in_bytes b)) ≡ b
    cuts_back whole =
        rw length-cuts
        (part_same (rows cut_row (length b / 8)) (length-rows cut_row 8 (length b / 8) (λ j h. cut-length (cut_on (cuts_in_bytes b) j)) ∙ sym whole)
        (part_rows cut_row 8 (length b / 8) (λ j h. cut-length (cut_on (cuts_in_bytes b) j)) row_back))

-- ---- what is answered

module _ (h : ByteProfile) (b : List ℕ) where
  abbrev n : ℕ
  n = h.numbers.days

  abbrev p : Profile
  p = profile_of h

  -- no check of the lists or of the profile refuses
  pub record Opens : Type 0 where
    pub lengths : lengths_refusal (byte_length_refusal h) (length b) ≡ 0
    pub profile : early_opening p ≡ 0

  -- no check before the output's length refuses
  pub record Checked : Type 0 where
    pub opens : Opens
    pub formed : cuts_refusal n b ≡ 0

  none_early : Checked → early_writing_over h b ≡ 0
  unfolding early_writing_over
  none_early c = rw (c.opens.lengths, c.opens.profile) c.formed

  module _ (l : List ℕ) where
    -- what `write` ensures
    abbrev Answers : Result ℕ Refusal → List ℕ → Type 0
    Answers r out = (write_as r ≡ write_over h b (length l)) × (out ≡ output_over h b l)

    refused_by : (r : Refusal) → writing_refusal_over h b (length l) ≡ refusal_number r → Answers (Err r) l
    unfolding write_over output_over
    refused_by r e = let test = ne_eqb (refusal_number r) 0 (refused r) in (rw (e, test), rw (e, test))

    module _ (r : Refusal) where
      early : refusal_number r ≡ early_writing_over h b → Answers (Err r) l
      unfolding writing_refusal_over
      early e = refused_by r (rw (← e, ne_eqb (refusal_number r) 0 (refused r)))

      pub bad_lengths : refusal_number r ≡ lengths_refusal (byte_length_refusal h) (length b) → Answers (Err r) l
      unfolding early_writing_over
      bad_lengths e = early (rw (← e, ne_eqb (refusal_number r) 0 (refused r)))

      pub bad_profile : lengths_refusal (byte_length_refusal h) (length b) ≡ 0 → refusal_number r ≡ early_opening p → Answers (Err r) l
      unfolding early_writing_over
      bad_profile lengths e = early (rw (lengths, ← e, ne_eqb (refusal_number r) 0 (refused r)))

      pub bad_cut_lem : Opens → refusal_number r ≡ cuts_refusal n b → Answers (Err r) l
      unfolding early_writing_over
      bad_cut_lem o e = early (rw (o.lengths, o.profile) e)

    -- what is stored: the header, then the days from the lists' points, then the cuts' bytes
    pub record Stored (out : List ℕ) : Type 0 where
      pub floors : List ℤ
      pub ceilings : List ℤ
      pub rises : List ℤ
      pub one : List ℕ
      pub two : List ℕ
      pub floors-held : floors ≡ points_in h.floors n
      pub ceilings-held : ceilings ≡ points_in h.ceilings n
      pub rises-held : rises ≡ points_in h.rises (n - 1)
      pub header_put : one ≡ sets l 0 (header h.numbers (length b / 8))
      pub days_put : two ≡ sets one 18 (rows (λ k. day_bytes (on floors k) (on ceilings k) (on rises k)) n)
      pub cuts_put : out ≡ sets two (day_offset n) b

    module _ (c : Checked) where
      pub too_short : length l < file_length n (length b / 8) → Answers (Err Length) l
      unfolding writing_refusal_over
      too_short short = refused_by Length (rw (none_early c, lt-ltb (length l) (file_length n (length b / 8)) short))

      module _ (bytes : Bytes b) (room : file_length n (length b / 8) ≤ length l) where
        accepted : writing_refusal_over h b (length l) ≡ 0
        unfolding writing_refusal_over
        accepted = rw (none_early c, le-ltb (length l) (file_length n (length b / 8)) room) refl

        pub written : {out : List ℕ} → Stored out → Answers (Ok (file_length n (length b / 8))) out
        unfolding write_over output_over
        written {out} d =
            let s = sized h (length b) c.opens.lengths in
            let days = rw (d.floors-held, d.ceilings-held, d.rises-held) at d.days_put in
            let whole : out ≡ sets l 0 (file p (cuts_in_bytes b)) = parts_stored p (cuts_in_bytes b) l (rw (length-cuts b) d.header_put) days (rw (cuts_back b n bytes c.formed s.whole) d.cuts_put) in
            (rw accepted refl, rw accepted (whole ∙ front-sets (file p (cuts_in_bytes b)) l (omega (arith, length-file p (cuts_in_bytes b), length-cuts b))))
