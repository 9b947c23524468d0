-- What holds of cuts one after another, and how long the lines are.
use mathlib.Core.Path.{◌≡◌, refl, ap, ◌∙◌}
use mathlib.Core.List.{List, [], ◌∷◌, ◌++◌, append_assoc}
use Prim.Native.Nat.{ℕ, zero, suc, ◌+◌, ◌-◌, ◌≤◌, ◌<◌, ◌^◌}
use native.Mathlib.Numerals.{add-one}
use native.Mathlib.Omega.{arith}
use lib.IntN.{ℤ, pos, negsuc}
use lib.ListN.{length, get_or, drop, length-append}
use borrow.Author.Tests.{eq-eqb, ne_eqb}
use Rattle.limits.specs.Limits.{lowest_point, lowest_total}
use Rattle.theory_lists.specs.Sum.{at}
use Rattle.theory_lists.specs.Front.{in_front}
use Rattle.theory_lists.specs.Rows.{rows, rows-most}
use Rattle.base_codes.specs.Code.{decoded}
use Rattle.base_codes.proofs.Offset.{Less, less_le}
use Rattle.base_codes.proofs.Laws.{point_less, total_less, decoded_less}
use Rattle.base_text.specs.Numbers.{decimal, number}
use Rattle.base_text.proofs.Digits.{decimal-length, number-length}
use Rattle.session.specs.Showing.{SessionInBounds, floor_on, ceiling_on, total_floor, total_ceiling}
use Rattle.session.specs.Opening.{opened, refused_with, Opened}
use Rattle.session.specs.declared.Session.{Session}
use Rattle.session_cuts.specs.declared.Cut.{Cut}
use Rattle.session_cuts.specs.declared.Sheet.{Sheet}
use Rattle.session_cuts.specs.Sheet.{blank, cut_on, cuts_of}
use Rattle.session_cuts.proofs.Laws.{length-cuts_of, cut_on-cuts_of}
use Rattle.session_cutting.specs.Cutting.{after_cut}
use Rattle.file_format.specs.Format.{profile_in, cuts_in}
use Rattle.file_format.specs.Reading.{early_reading}
use Rattle.file_printing.specs.Printing.{after_entry, cut_once, cut_all, range, total_line, day_line, refused_line, ranges_text, answer_text, file_opened, printed}

-- ---- cuts

-- no cut after a refusal
pub once-refused : (o : Opened) (c : Cut) → (o.refusal ≡ 0 → ⊥) → cut_once o c ≡ o
unfolding cut_once
once-refused o c h = rw (ne_eqb o.refusal 0 h) refl

pub once_applied : (o : Opened) (c : Cut) → o.refusal ≡ 0 → cut_once o c ≡ after_entry (after_cut o.session c 512)
unfolding cut_once
once_applied o c h = rw (eq-eqb o.refusal 0 h) refl

module _ (o : Opened) (f : ℕ → Cut) where
  pub all_none : cut_all o f 0 ≡ o
  unfolding cut_all
  all_none = refl

  pub all_more : (m : ℕ) → cut_all o f (m + 1) ≡ cut_once (cut_all o f m) (f m)
  unfolding cut_all
  all_more m = rw add-one

  -- after a refusal there is none
  pub all-refused : (o.refusal ≡ 0 → ⊥) → (m : ℕ) → cut_all o f m ≡ o
  unfolding cut_all
  all-refused h zero = refl
  all-refused h (suc m) = ap (λ a. cut_once a (f m)) (all-refused h m) ∙ once-refused o (f m) h

  -- a refusal stays
  pub all-stays : (j n : ℕ) → j ≤ n → ((cut_all o f j).refusal ≡ 0 → ⊥) → cut_all o f n ≡ cut_all o f j
  unfolding cut_all
  all-stays j n h some = let e : n ≡ j + (n - j) = omega arith in rw e (go (n - j))
    where
      go : (d : ℕ) → cut_all o f (j + d) ≡ cut_all o f j
      go zero = let e : j + 0 ≡ j = omega arith in rw e refl
      go (suc d) = let e : j + suc d ≡ suc (j + d) = omega arith in rw e (ap (λ a. cut_once a (f (j + d))) (go d) ∙ once-refused (cut_all o f j) (f (j + d)) some)

-- only the first m matter
pub all_same : (o : Opened) (f g : ℕ → Cut) (m : ℕ) → ((j : ℕ) → j < m → f j ≡ g j) → cut_all o f m ≡ cut_all o g m
unfolding cut_all
all_same o f g zero h = refl
all_same o f g (suc m) h = ap (λ a. cut_once a (f m)) (all_same o f g m (λ j l. h j (omega arith))) ∙ ap (cut_once (cut_all o g m)) (h m (omega arith))

-- ---- what is printed for a file, stage by stage

pub answer-refused : (o : Opened) → (o.refusal ≡ 0 → ⊥) → answer_text o ≡ refused_line o.refusal
unfolding answer_text
answer-refused o h = rw (ne_eqb o.refusal 0 h) refl

pub answer-ranges : (o : Opened) → o.refusal ≡ 0 → answer_text o ≡ ranges_text o.session
unfolding answer_text
answer-ranges o h = rw (eq-eqb o.refusal 0 h) refl

-- the cuts of a sheet
all_sheet : (o : Opened) (s : Sheet) → cut_all o (cut_on (cuts_of s)) (length (cuts_of s)) ≡ cut_all o (λ j. (get_or s.entries j blank).cut) s.count
all_sheet o s = rw (length-cuts_of s) (all_same o (cut_on (cuts_of s)) (λ j. (get_or s.entries j blank).cut) s.count (cut_on-cuts_of s))

module _ (b : List ℕ) where
  -- reading refuses
  pub read-refused : (early_reading b ≡ 0 → ⊥) → printed b ≡ refused_line (early_reading b)
  unfolding printed file_opened
  read-refused h = rw (ne_eqb (early_reading b) 0 h) (answer-refused (refused_with (early_reading b)) h)

  module _ (z : early_reading b ≡ 0) where
    file-taken : printed b ≡ answer_text (cut_all (opened (profile_in b)) (cut_on (cuts_in b)) (length (cuts_in b)))
    unfolding printed file_opened
    file-taken = rw (eq-eqb (early_reading b) 0 z) refl

    -- opening refuses
    pub open_refused : ((opened (profile_in b)).refusal ≡ 0 → ⊥) → printed b ≡ refused_line (opened (profile_in b)).refusal
    open_refused h =
        let o = opened (profile_in b) in
        file-taken ∙ ap answer_text (all-refused o (cut_on (cuts_in b)) h (length (cuts_in b))) ∙ answer-refused o h

    -- the cuts are those of a sheet
    pub sheet_applied : (s : Sheet) → cuts_of s ≡ cuts_in b → printed b ≡ answer_text (cut_all (opened (profile_in b)) (λ j. (get_or s.entries j blank).cut) s.count)
    sheet_applied s e = file-taken ∙ ap answer_text (rw e at (all_sheet (opened (profile_in b)) s))

-- ---- the parts of a line, in the order in which they are stored

pub range_parts : (low high : ℤ) → range low high ≡ (32 ∷ []) ++ (number low ++ ((32 ∷ []) ++ (number high ++ (10 ∷ []))))
range_parts low high = simp append_assoc

pub total_parts : (low high : ℤ) → total_line low high ≡ (116 ∷ 111 ∷ 116 ∷ 97 ∷ 108 ∷ []) ++ range low high
unfolding total_line
total_parts low high = refl

pub day_parts : (day : ℕ) (low high : ℤ) → day_line day low high ≡ (100 ∷ 97 ∷ 121 ∷ 32 ∷ []) ++ (decimal day ++ range low high)
unfolding day_line
day_parts day low high = append_assoc (100 ∷ 97 ∷ 121 ∷ 32 ∷ []) (decimal day) (range low high)

pub refused_parts : (refusal : ℕ) → refused_line refusal ≡ (114 ∷ 101 ∷ 102 ∷ 117 ∷ 115 ∷ 101 ∷ 100 ∷ 32 ∷ []) ++ (decimal refusal ++ (10 ∷ []))
unfolding refused_line
refused_parts refusal = append_assoc (114 ∷ 101 ∷ 102 ∷ 117 ∷ 115 ∷ 101 ∷ 100 ∷ 32 ∷ []) (decimal refusal) (10 ∷ [])

pub ranges_parts : (s : Session) → ranges_text s ≡ total_line (total_floor s) (total_ceiling s) ++ rows (λ k. day_line k (floor_on s k) (ceiling_on s k)) s.days
unfolding ranges_text
ranges_parts s = refl

-- ---- lengths

pub refused-length : (refusal : ℕ) → refusal < 256 → length (refused_line refusal) ≤ 12
refused-length refusal h = rw (refused_parts refusal) (omega (arith, length-append (decimal refusal) (10 ∷ []), decimal-length 2 refusal (omega arith)))

-- a number over an offset k that is at most n
length_over : (d n k : ℕ) (low : ℤ) (m : ℕ) → Less low 0 (k + 1) → m ≤ n + (k + 1) → k + 1 < 10 ^ (d + 1) → n < 10 ^ (d + 2) → length (number (decoded low m)) ≤ d + 2
length_over d n k low m p h f g =
    let z = decoded_less low m (k + 1) p in
    number-length d n k (decoded low m) (less_le (negsuc k) (decoded low m) 0 m (k + 1) (omega arith) z (omega arith)) (less_le (decoded low m) (pos n) m (n + (k + 1)) (k + 1) z refl h) f g

point_length : (m : ℕ) → m ≤ 5000 → length (number (decoded lowest_point m)) ≤ 5
point_length m h = length_over 3 4000 999 lowest_point m point_less h (omega arith) (omega arith)

total-length : (m : ℕ) → m ≤ 2560000 → length (number (decoded lowest_total m)) ≤ 7
total-length m h = length_over 5 2048000 511999 lowest_total m total_less h (omega arith) (omega arith)

range_length : (w : ℕ) (low high : ℤ) → length (number low) ≤ w → length (number high) ≤ w → length (range low high) ≤ w + w + 3
range_length w low high l h = simp length-append (omega arith)

module _ {s : Session} (b : SessionInBounds s) where
  pub total_line_lem : length (total_line (total_floor s) (total_ceiling s)) ≤ 22
  unfolding total_line
  total_line_lem = omega (arith, range_length 7 (total_floor s) (total_ceiling s) (total-length s.present.lowest b.present.lowest) (total-length s.present.highest b.present.highest))

  pub day_line_lem : (k : ℕ) → k < s.days → length (day_line k (floor_on s k) (ceiling_on s k)) ≤ 20
  unfolding day_line
  day_line_lem k h =
      omega (
        arith,
        length-append (decimal k) (range (floor_on s k) (ceiling_on s k)),
        decimal-length 2 k (omega (arith, b.present.most)),
        range_length 5 (floor_on s k) (ceiling_on s k) (point_length (at s.present.floors k) (b.present.floor k h)) (point_length (at s.present.ceilings k) (b.present.ceiling k h)),
      )

  pub ranges-fit : length (ranges_text s) ≤ 10262
  unfolding ranges_text
  ranges-fit =
      omega (
        arith,
        length-append (total_line (total_floor s) (total_ceiling s)) (rows (λ k. day_line k (floor_on s k) (ceiling_on s k)) s.days),
        total_line_lem,
        rows-most (λ k. day_line k (floor_on s k) (ceiling_on s k)) 20 s.days day_line_lem,
        b.present.most,
      )

-- a text that stands at the front of a list is no longer than the list
pub front-room : (xs l : List ℕ) → length xs ≤ length (in_front xs l)
unfolding in_front
front-room xs l = omega (arith, length-append xs (drop (length xs) l))
