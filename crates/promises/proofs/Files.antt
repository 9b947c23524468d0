-- What is written over C is what the writer by value writes; it is read again as the same lists, and what was read is written back. `lists_in` are the
-- lists of a file's own bytes; what the reader stores in lent lists is found to be these.
use Rattle.std.specs.Prelude.{None, Option, Some}
use mathlib.Core.Path.{◌≡◌, refl, sym, ap, ◌∙◌, subst}
use mathlib.Core.Bool.{Bool, true, false, cond}
use mathlib.Core.List.{List}
use Prim.Native.Nat.{ℕ, ◌+◌, ◌-◌, ◌*◌, ◌/◌, ◌≤◌, ◌<◌}
use native.Mathlib.Nat.{add_assoc}
use native.Mathlib.Omega.{arith}
use lib.IntN.{ℤ, pos}
use lib.Dec.{eqb}
use lib.ListN.{length, take, drop, length-drop}
use lib.Seq.{get_or-drop, take_at}
use borrow.Author.Tests.{eq-eqb, ne_eqb, le-ltb}
use mir.Syntax.{w16}
use mir.Val.{SFits}
use mir.Facts.{sfits_to_z}
use Rattle.theory_lists.specs.Checks.{then_zero}
use Rattle.theory_lists.specs.First.{first_nonzero, nonzero-none, nonzero-same}
use Rattle.theory_lists.specs.Front.{in_front}
use Rattle.theory_lists.specs.ListOf.{list_of, get_list_of, list_of-same}
use Rattle.theory_lists.specs.Part.{part_rows, part_all, part_same}
use Rattle.theory_lists.specs.Rows.{rows, rows_same, length-rows}
use Rattle.base_codes.specs.Code.{on}
use Rattle.base_little_endian.specs.Fields.{Bytes, u16_at, u32_at, i16_at, i32_at, i16_bytes}
use Rattle.base_little_endian.proofs.Laws.{u16-most, i16_length, i16_part}
use Rattle.session.specs.Profile.{Profile}
use Rattle.session.specs.Opening as Opening
use Rattle.session.specs.declared.Numbers.{Numbers}
use Rattle.session_cuts.specs.declared.Cut.TheVariants.{DayFloor}
use Rattle.session_cuts.specs.Sheet.{cut_on}
use Rattle.session_cutting.specs.Cutting.{malformed}
use Rattle.file_format.specs.Format as Format
use Rattle.file_format.specs.Format.{day_offset, file_length, day_count, cut_count, numbers_in, floor_at, ceiling_at, rise_at, numbered_at, known, cuts_in, file}
use Rattle.file_format.specs.Reading as Reading
use Rattle.file_format.specs.Writing.{early_writing, writing_refusal}
use Rattle.file_format.proofs.Parts.{file-cuts}
use Rattle.file_format.proofs.Taken.{taken}
use Rattle.file_format.proofs.RoundTrip.{reads_again, written_back}
use Rattle.file_writing.specs.Writing as ByValue
use Rattle.file_writing.proofs.Laws.{answered, written-front, written-file}
use Rattle.c_lists.specs.Lists.{point_at, points_in, point_bytes, lent_points}
use Rattle.c_lists.specs.Profiles.{byte_profile, byte_length_refusal}
use Rattle.c_lists.proofs.Laws.{points_left, points_filled}
use Rattle.c_files.specs.Reading.{Contents, no_room_over, reading_refusal_over, refused_contents, contents_of, read_into, cuts_lent}
use Rattle.c_files.specs.Writing.{numbered_refusal, cuts_in_bytes, lengths_refusal, early_writing_over, writing_refusal_over, write_over, output_over}
use Rattle.c_files.proofs.Writing.{Sized, sized, length-cuts, cuts_back}
use Rattle.promises.specs.FilesInBytes.{ListsInBytes, write, output_in_bytes, written_in_bytes, profile_in_bytes, Lent, read_over, filled_over, read_lists, RoomyInBytes, ReadAgainInBytes, WrittenBackInBytes, FilesInBytes}
use Rattle.promises.proofs.Points.{points_long, points_read}
use Rattle.session_cuts.specs.declared.Cut.{Cut}

numbered-formed : (n : ℕ) (t : Option Cut) → numbered_refusal n t ≡ 0 → malformed n (known t) ≡ 0
numbered-formed n (Some c) e = e
numbered-formed n None e = absurd (omega arith)

cut-listed : (b : List ℕ) (j : ℕ) → j < length b / 8 → cut_on (cuts_in_bytes b) j ≡ known (numbered_at b (j * 8))
unfolding cuts_in_bytes
cut-listed b j h = get_list_of (λ k. known (numbered_at b (k * 8))) (DayFloor 0 (pos 0)) (length b / 8) j h

-- values that are the points of a list have its bytes
points_back : {m n : ℕ} (xs : List ℕ) (f : ℕ → ℤ) → Bytes xs → length xs ≡ n * 2 → m ≡ n → list_of f m ≡ points_in xs n → point_bytes f m ≡ xs
unfolding point_bytes points_in
points_back {m} {n} xs f bytes long e same =
    let row : ℕ → List ℕ = λ k. i16_bytes (point_at xs k) in
    let value : (k : ℕ) → k < m → f k ≡ point_at xs k =
    λ k h. sym (get_list_of f (pos 0) m k h) ∙ ap (λ (l : List ℤ). on l k) same ∙ get_list_of (point_at xs) (pos 0) n k (omega arith) in
    rows_same (λ k. i16_bytes (f k)) row m (λ k h. ap i16_bytes (value k h))
    ∙ part_same (rows row m) (omega (arith, length-rows row 2 m (λ k h. i16_length (point_at xs k))))
    (part_rows row 2 m (λ k h. i16_length (point_at xs k)) (λ k h. let z : 0 + k * 2 ≡ k * 2 = omega arith in rw z (i16_part bytes (k * 2))))

-- the lists that stand in a file
abbrev lists_in : List ℕ → ListsInBytes
lists_in f =
    let n : ℕ = day_count f in
    record {
      profile = byte_profile (numbers_in f) (point_bytes (floor_at f) n) (point_bytes (ceiling_at f) n) (point_bytes (rise_at f) (n - 1));
      cuts = drop (day_offset n) f;
    }

-- each list is one of bytes
record InBytes (l : ListsInBytes) : Type 0 where
  floors : Bytes l.profile.floors
  ceilings : Bytes l.profile.ceilings
  rises : Bytes l.profile.rises
  cuts : Bytes l.cuts

module _ (l : ListsInBytes) where
  abbrev n : ℕ
  n = l.profile.numbers.days

  abbrev b : List ℕ
  b = l.cuts

  -- the profile by value
  abbrev p : Profile
  p = profile_in_bytes l

  -- the file by value
  abbrev whole : List ℕ
  whole = file p (cuts_in_bytes b)

  abbrev early : ℕ
  early = early_writing_over l.profile b

  -- what passes over C
  record Passed : Type 0 where
    pub size : Sized l.profile (length b)
    pub values : Opening.early_opening p ≡ 0
    pub cuts : first_nonzero (λ j. numbered_refusal n (numbered_at b (j * 8))) (length b / 8) ≡ 0

  passed : early ≡ 0 → Passed
  unfolding early_writing_over
  passed e =
      let lengths = then_zero (lengths_refusal (byte_length_refusal l.profile) (length b)) _ e in
      let values = then_zero (Opening.early_opening p) _ lengths.1 in
      record { size = sized l.profile _ lengths.0; values = values.0; cuts = values.1 }

  -- passes by value
  by_value : Passed → early_writing p (cuts_in_bytes b) ≡ 0
  unfolding early_writing
  by_value w =
      let same : (j : ℕ) → j < length b / 8 → malformed n (cut_on (cuts_in_bytes b) j) ≡ numbered_refusal n (numbered_at b (j * 8)) =
      λ j h. let z = nonzero-none (λ i. numbered_refusal n (numbered_at b (i * 8))) (length b / 8) w.cuts j h in rw (cut-listed b j h) (numbered-formed n (numbered_at b (j * 8)) z ∙ sym z) in
      rw (length-cuts b, le-ltb 512 (length b / 8) w.size.few, w.values)
      (nonzero-same (λ j. malformed n (cut_on (cuts_in_bytes b) j)) (λ j. numbered_refusal n (numbered_at b (j * 8))) (length b / 8) same ∙ w.cuts)

  module _ (out : List ℕ) (e : (write l out).refusal ≡ 0) where
    none : writing_refusal_over l.profile b (length out) ≡ 0
    unfolding write_over
    none = sym (answered _ (file_length n (length b / 8))) ∙ e

    checked : Passed
    unfolding writing_refusal_over
    checked = passed (then_zero early _ none).0

    taken_by_value : writing_refusal p (cuts_in_bytes b) (length out) ≡ 0
    unfolding writing_refusal writing_refusal_over
    taken_by_value = rw (by_value checked, length-cuts b) (then_zero early _ none).1

    -- what is written is what the writer by value writes
    written_by_value : (write l out ≡ ByValue.write_answer p (cuts_in_bytes b) (length out)) × (output_in_bytes l out ≡ ByValue.output p (cuts_in_bytes b) out)
    unfolding write_over ByValue.write_answer output_over ByValue.output
    written_by_value = (rw (none, taken_by_value, length-cuts b) refl, rw (none, taken_by_value) refl)

    accepted : (ByValue.write_answer p (cuts_in_bytes b) (length out)).refusal ≡ 0
    accepted = rw written_by_value.0 at e

    at_front : written_in_bytes l out ≡ whole
    at_front = rw (written_by_value.0, written_by_value.1) (written-file p (cuts_in_bytes b) out accepted)

    in_front_lem : output_in_bytes l out ≡ in_front whole out
    in_front_lem = written_by_value.1 ∙ written-front p (cuts_in_bytes b) out accepted

    -- ---- read again

    taken-again : Reading.early_reading (written_in_bytes l out) ≡ 0
    taken-again = rw at_front (reads_again p (cuts_in_bytes b) (by_value checked)).taken

    lists-again : InBytes l → lists_in (written_in_bytes l out) ≡ l
    unfolding Format.profile_in
    lists-again bytes =
        let r = reads_again p (cuts_in_bytes b) (by_value checked) in
        let long = checked.size.lists in
        let numbers : numbers_in whole ≡ l.profile.numbers = ap Opening.numbers_of r.profile in
        let days : day_count whole ≡ n = ap (λ (m : Numbers). m.days) numbers in
        let floors : (lists_in whole).profile.floors ≡ l.profile.floors = points_back l.profile.floors _ bytes.floors long.floors-long days (ap (λ (q : Profile). q.floors) r.profile) in
        let ceilings : (lists_in whole).profile.ceilings ≡ l.profile.ceilings = points_back l.profile.ceilings _ bytes.ceilings long.ceilings-long days (ap (λ (q : Profile). q.ceilings) r.profile) in
        let rises : (lists_in whole).profile.rises ≡ l.profile.rises = points_back l.profile.rises _ bytes.rises long.rises-long (ap (λ m. m - 1) days) (ap (λ (q : Profile). q.rises) r.profile) in
        let cuts : (lists_in whole).cuts ≡ b = rw days (file-cuts p (cuts_in_bytes b) ∙ cuts_back b n bytes.cuts checked.cuts checked.size.whole) in
        rw at_front (λ i. record { profile = byte_profile (numbers i) (floors i) (ceilings i) (rises i); cuts = cuts i })

-- ---- written back

module _ (d : ℕ) (f : List ℕ) where
  u16-drop : (i : ℕ) → u16_at (drop d f) i ≡ u16_at f (d + i)
  unfolding u16_at
  u16-drop i = simp (get_or-drop, ← add_assoc)

  numbered-drop : (i : ℕ) → numbered_at (drop d f) i ≡ numbered_at f (d + i)
  unfolding i32_at u32_at
  numbered-drop i = simp (u16-drop, ← add_assoc)

-- what the reader stores of a file, by value
module _ (f : List ℕ) (bytes : Bytes f) (e : Reading.early_reading f ≡ 0) where
  fits : (i : ℕ) → SFits w16 (i16_at f i)
  unfolding i16_at
  fits i = sfits_to_z (record { fits = u16-most bytes i })

  points_same : (g : ℕ → ℤ) (n : ℕ) → ((k : ℕ) → SFits w16 (g k)) → points_in (point_bytes g n) n ≡ list_of g n
  points_same g n small = points_read g n (λ k h. small k) (part_all (point_bytes g n))

  profile-read : p (lists_in f) ≡ Format.profile_in f
  unfolding Format.profile_in
  profile-read =
      rw (
        points_same (floor_at f) (day_count f) (λ k. fits (day_offset k)),
        points_same (ceiling_at f) (day_count f) (λ k. fits (day_offset k + 2)),
        points_same (rise_at f) (day_count f - 1) (λ k. fits (day_offset k + 4)),
      ) refl

  cuts-read : cuts_in_bytes (lists_in f).cuts ≡ cuts_in f
  unfolding cuts_in_bytes cuts_in
  cuts-read =
      let count : length (lists_in f).cuts / 8 ≡ cut_count f = rw length-drop (omega (arith, (taken f e).whole)) in
      rw count (list_of-same _ _ (cut_count f) (λ j h. ap known (numbered-drop (day_offset (day_count f)) f (j * 8))))

  file-read : whole (lists_in f) ≡ f
  file-read = rw (profile-read, cuts-read) (written_back f bytes e)

-- ---- what the reader stores in lent lists

front : (xs l : List ℕ) (m : ℕ) → length xs ≡ m → take m (in_front xs l) ≡ xs
unfolding in_front
front xs l m e = take_at xs (drop (length xs) l) m e

points_found : (r : ℕ) (g : ℕ → ℤ) (n : ℕ) (l : List ℕ) → r ≡ 0 → take (n * 2) (lent_points r g n l) ≡ point_bytes g n
points_found r g n l z = rw (points_filled r g n l z) (front (point_bytes g n) l (n * 2) (points_long g n))

answered-zero : (number : ℕ) (c : Contents) → (cond (eqb number 0) c (refused_contents number)).refusal ≡ 0 → c.refusal ≡ 0 → number ≡ 0
answered-zero number c e z = (then_zero number c.refusal (go (eqb number 0) e)).0
  where
    go : (b : Bool) → (cond b c (refused_contents number)).refusal ≡ 0 → cond b c.refusal number ≡ 0
    go true e = e
    go false e = e

module _ (f : List ℕ) (t : Lent) where
  abbrev number : ℕ
  number = reading_refusal_over f (length t.floors) (length t.ceilings) (length t.rises) (length t.cuts)

  -- the answer where nothing is refused
  contents : number ≡ 0 → read_over f t ≡ contents_of f
  unfolding read_into
  contents z = rw (eq-eqb number 0 z) refl

  module _ (e : (read_over f t).refusal ≡ 0) where
    unrefused : number ≡ 0
    unfolding read_into
    unrefused = answered-zero number (contents_of f) e refl

    early_none : Reading.early_reading f ≡ 0
    unfolding reading_refusal_over
    early_none = (then_zero (Reading.early_reading f) _ unrefused).0

    cuts-found : take (cut_count f * 8) (cuts_lent (read_over f t).refusal f t.cuts) ≡ drop (day_offset (day_count f)) f
    unfolding cuts_lent
    cuts-found =
        rw (eq-eqb (read_over f t).refusal 0 e)
        (front (drop (day_offset (day_count f)) f) t.cuts (cut_count f * 8) (length-drop (day_offset (day_count f)) f ∙ omega (arith, (taken f early_none).whole)))

    lists-found : read_lists f t ≡ lists_in f
    lists-found =
        let c = contents unrefused in
        let numbers : (read_over f t).numbers ≡ numbers_in f = ap (λ (r : Contents). r.numbers) c in
        let days : (read_over f t).numbers.days ≡ day_count f = ap (λ (m : Numbers). m.days) numbers in
        let count : (read_over f t).cuts ≡ cut_count f = ap (λ (r : Contents). r.cuts) c in
        let floors : (read_lists f t).profile.floors ≡ (lists_in f).profile.floors = ap (λ m. take (m * 2) (filled_over f t).floors) days ∙ points_found _ (floor_at f) (day_count f) t.floors e in
        let ceilings : (read_lists f t).profile.ceilings ≡ (lists_in f).profile.ceilings = ap (λ m. take (m * 2) (filled_over f t).ceilings) days ∙ points_found _ (ceiling_at f) (day_count f) t.ceilings e in
        let rises : (read_lists f t).profile.rises ≡ (lists_in f).profile.rises = ap (λ m. take ((m - 1) * 2) (filled_over f t).rises) days ∙ points_found _ (rise_at f) (day_count f - 1) t.rises e in
        let cuts : (read_lists f t).cuts ≡ (lists_in f).cuts = ap (λ m. take (m * 8) (filled_over f t).cuts) count ∙ cuts-found in
        λ i. record { profile = byte_profile (numbers i) (floors i) (ceilings i) (rises i); cuts = cuts i }

  left : ((read_over f t).refusal ≡ 0 → ⊥) → filled_over f t ≡ t
  unfolding cuts_lent
  left h = rw (points_left _ _ _ t.floors h, points_left _ _ _ t.ceilings h, points_left _ _ _ t.rises h, ne_eqb (read_over f t).refusal 0 h) refl

-- lists long enough are not refused
room : (n m a b c d : ℕ) → n * 2 ≤ a → n * 2 ≤ b → (n - 1) * 2 ≤ c → m * 8 ≤ d → no_room_over n m a b c d ≡ false
room n m a b c d p q r s = rw (le-ltb (a / 2) n (omega arith), le-ltb (b / 2) n (omega arith), le-ltb (c / 2) (n - 1) (omega arith), le-ltb d (m * 8) s) refl

roomy-taken : (f : List ℕ) (t : Lent) → Reading.early_reading f ≡ 0 → RoomyInBytes (lists_in f) t → (read_over f t).refusal ≡ 0
unfolding read_into reading_refusal_over
roomy-taken f t e r =
    let z = room (day_count f) (cut_count f) (length t.floors) (length t.ceilings) (length t.rises) (length t.cuts)
    (omega (arith, r.floors, points_long (floor_at f) (day_count f))) (omega (arith, r.ceilings, points_long (ceiling_at f) (day_count f)))
    (omega (arith, r.rises, points_long (rise_at f) (day_count f - 1))) (omega (arith, r.cuts, length-drop (day_offset (day_count f)) f, (taken f e).whole)) in
    rw (e, z) refl

-- ---- all of it

output-left : (l : ListsInBytes) (out : List ℕ) → ((write l out).refusal ≡ 0 → ⊥) → output_in_bytes l out ≡ out
unfolding write_over output_over
output-left l out h =
    let number = writing_refusal_over l.profile l.cuts (length out) in
    rw (ne_eqb number 0 (λ z. h (answered number (file_length l.profile.numbers.days (length l.cuts / 8)) ∙ z))) refl

again : (l : ListsInBytes) (out : List ℕ) (t : Lent) → Bytes l.profile.floors → Bytes l.profile.ceilings → Bytes l.profile.rises → Bytes l.cuts
    → (write l out).refusal ≡ 0 → RoomyInBytes l t → ReadAgainInBytes l (written_in_bytes l out) t
again l out t bf bc br bb e r =
    let same = lists-again l out e (record { floors = bf; ceilings = bc; rises = br; cuts = bb }) in
    let z = roomy-taken (written_in_bytes l out) t (taken-again l out e) (rw same r) in
    record { taken = z; lists = lists-found (written_in_bytes l out) t z ∙ same }

back : (f out : List ℕ) (t : Lent) → Bytes f → (read_over f t).refusal ≡ 0 → (write (read_lists f t) out).refusal ≡ 0 → WrittenBackInBytes f out t
back f out t bytes e w =
    let same = lists-found f t e in
    let v = subst (λ (x : ListsInBytes). (write x out).refusal ≡ 0) same w in
    let file = file-read f bytes (early_none f t e) in
    record {
      same = ap (λ (x : ListsInBytes). written_in_bytes x out) same ∙ at_front (lists_in f) out v ∙ file;
      rest = ap (λ (x : ListsInBytes). output_in_bytes x out) same ∙ in_front_lem (lists_in f) out v ∙ ap (λ xs. in_front xs out) file;
    }

pub files_in_bytes : FilesInBytes
files_in_bytes = record { refused = record { writing = output-left; reading = left }; again = again; back = back; by_value = written_by_value }
