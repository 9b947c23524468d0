-- What the reader hands back of a file that it takes.
use mathlib.Core.Path.{◌≡◌, refl, sym, ap, ◌∙◌}
use mathlib.Core.Bool.{cond, ◌||◌}
use mathlib.Core.List.{List}
use Prim.Native.Nat.{ℕ, zero, suc, ◌+◌, ◌-◌, ◌*◌, ◌≤◌}
use native.Mathlib.Omega.{arith}
use native.Mathlib.Decide.{ℕ_discrete}
use lib.Dec.{eqb, ltb}
use lib.ListN.{replicate, length-replicate}
use borrow.Author.Tests.{eq-eqb, ne_eqb, ltb-false, le-ltb}
use Rattle.theory_lists.specs.Checks.{cond-zero, then_zero, or-false}
use Rattle.theory_lists.specs.ListOf.{list_of-same}
use Rattle.theory_lists.specs.Written.{written_below}
use Rattle.session_cuts.specs.declared.Entry.{Entry}
use Rattle.session_cuts.specs.Sheet.{blank, cuts_of}
use Rattle.file_format.specs.Format.{day_offset, day_count, cut_count, numbered_at, known, cuts_in}
use Rattle.file_format.specs.Reading.{early_reading, no_room, reading_refusal}
use Rattle.file_format.proofs.Taken.{Taken, taken}
use Rattle.file_reading.specs.Reading.{sheet_from, contents, read_from, refused_read}

pub sheet_cuts : (b : List ℕ) → cut_count b ≤ 512 → cuts_of (sheet_from b (day_offset (day_count b)) (cut_count b)) ≡ cuts_in b
unfolding cuts_of sheet_from cuts_in
sheet_cuts b few =
    list_of-same _ _ (cut_count b)
    (λ j h. ap (λ (e : Entry). e.cut)
    (written_below (λ k. record { cut = known (numbered_at b (day_offset (day_count b) + k * 8)) }) blank (cut_count b) (replicate 512 blank) j h (omega (arith, length-replicate {A = Entry} 512 blank))))

module _ (b : List ℕ) (floors ceilings rises : ℕ) where
  -- the number that stands in the answer
  pub read-refusal : (read_from b floors ceilings rises).refusal ≡ reading_refusal b floors ceilings rises
  unfolding read_from contents
  read-refusal = go (reading_refusal b floors ceilings rises)
    where
      go : (r : ℕ) → (cond (eqb r 0) (contents b) (refused_read r)).refusal ≡ r
      go zero = refl
      go (suc r) = rw (ne_eqb (suc r) 0 (λ e. omega arith)) refl

  pub record Room : Type 0 where
    pub floors-long : day_count b ≤ floors
    pub ceilings-long : day_count b ≤ ceilings
    pub rises-long : day_count b - 1 ≤ rises

  unrefused : reading_refusal b floors ceilings rises ≡ 0 → read_from b floors ceilings rises ≡ contents b
  unfolding read_from
  unrefused z = rw (eq-eqb (reading_refusal b floors ceilings rises) 0 z) refl

  checked : reading_refusal b floors ceilings rises ≡ 0 → Taken b × Room
  unfolding reading_refusal
  checked z =
      let c1 = then_zero (early_reading b) _ z in
      let c2 = cond-zero (no_room b floors ceilings rises) 1 0 c1.1 in
      let short = or-false (ltb floors (day_count b) || ltb ceilings (day_count b)) (ltb rises (day_count b - 1)) c2.0 in
      let two = or-false (ltb floors (day_count b)) (ltb ceilings (day_count b)) short.0 in
      (taken b c1.0, record { floors-long = ltb-false _ _ two.0; ceilings-long = ltb-false _ _ two.1; rises-long = ltb-false _ _ short.1 })

  pub read_taken : (read_from b floors ceilings rises).refusal ≡ 0 → (read_from b floors ceilings rises ≡ contents b) × Taken b × Room
  read_taken e = let z = sym read-refusal ∙ e in (unrefused z, (checked z).0, (checked z).1)

  pub read_all : early_reading b ≡ 0 → Room → read_from b floors ceilings rises ≡ contents b
  unfolding reading_refusal
  read_all e r =
      unrefused (rw (e, le-ltb floors (day_count b) r.floors-long, le-ltb ceilings (day_count b) r.ceilings-long, le-ltb rises (day_count b - 1) r.rises-long) refl)

  -- lists that are long enough for every file: what is refused is the file
  pub read_number : 512 ≤ floors → 512 ≤ ceilings → 511 ≤ rises → (read_from b floors ceilings rises).refusal ≡ early_reading b
  unfolding reading_refusal contents
  read_number f c r = go (ℕ_discrete (early_reading b) 0)
    where
      go : Dec (early_reading b ≡ 0) → (read_from b floors ceilings rises).refusal ≡ early_reading b
      go (yes z) =
          let few = (taken b z).few in
          ap (λ a. a.refusal) (read_all z (record { floors-long = omega arith; ceilings-long = omega arith; rises-long = omega arith })) ∙ sym z
      go (no h) = read-refusal ∙ rw (ne_eqb (early_reading b) 0 h) refl
