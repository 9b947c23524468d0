-- `round_trips`, by the round trips of the format.
use mathlib.Core.Path.{◌≡◌, refl, ap, ◌∙◌}
use mathlib.Core.List.{List}
use Prim.Native.Nat.{ℕ, ◌-◌, ◌≤◌}
use lib.IntN.{ℤ}
use lib.ListN.{length, take}
use Rattle.theory_lists.specs.Front.{in_front}
use Rattle.theory_lists.specs.Lent.{lent_list, list-filled}
use Rattle.theory_lists.specs.ListOf.{list_of, take-written}
use Rattle.base_little_endian.specs.Fields.{Bytes}
use Rattle.session.specs.Profile.{Profile}
use Rattle.session.specs.Opening.{profile}
use Rattle.session.specs.declared.Numbers.{Numbers}
use Rattle.session_cuts.specs.declared.Cut.{Cut}
use Rattle.session_cuts.specs.Sheet.{cuts_of}
use Rattle.file_format.specs.Format.{day_count, numbers_in, floor_at, ceiling_at, rise_at, profile_in, cuts_in, file}
use Rattle.file_format.proofs.Taken.{Taken, not-refused}
use Rattle.file_format.proofs.RoundTrip.{Reads, reads_again, written_back}
use Rattle.file_reading.specs.Reading.{ReadAnswer, contents}
use Rattle.file_reading.proofs.Laws.{sheet_cuts, Room, read_taken, read_all}
use Rattle.file_writing.specs.Writing.{write_answer}
use Rattle.file_writing.proofs.Laws.{written_passed, written-front, written-file}
use Rattle.promises.specs.RoundTrips.{Lists, read, filled, profile_found, Roomy, ReadAgain, WrittenBack, RoundTrips}

-- what stands in the front of a lent list that was filled
found : (refusal : ℕ) (f : ℕ → ℤ) (l : List ℤ) {m n : ℕ} → refusal ≡ 0 → m ≡ n → n ≤ length l → take m (lent_list refusal f n l) ≡ list_of f n
found refusal f l {m} {n} z e long = ap (λ k. take k (lent_list refusal f n l)) e ∙ ap (take n) (list-filled refusal f n l z) ∙ take-written f n l long

module _ (b : List ℕ) (l : Lists) (e : (read b l).refusal ≡ 0) where
  whole : (read b l ≡ contents b) × Taken b × Room b (length l.floors) (length l.ceilings) (length l.rises)
  whole = read_taken b (length l.floors) (length l.ceilings) (length l.rises) e

  pub profile-read : profile_found (read b l) (filled b l) ≡ profile_in b
  unfolding profile_in contents
  profile-read =
      let p : Profile = profile_found (read b l) (filled b l) in
      let room = whole.2 in
      let numbers : (read b l).numbers ≡ numbers_in b = ap (λ (a : ReadAnswer). a.numbers) whole.0 in
      let days : p.days ≡ day_count b = ap (λ (m : Numbers). m.days) numbers in
      let floors : p.floors ≡ (profile_in b).floors = found _ (floor_at b) l.floors e days room.floors-long in
      let ceilings : p.ceilings ≡ (profile_in b).ceilings = found _ (ceiling_at b) l.ceilings e days room.ceilings-long in
      let rises : p.rises ≡ (profile_in b).rises = found _ (rise_at b) l.rises e (ap (λ n. n - 1) days) room.rises-long in
      λ i. profile (numbers i) (floors i) (ceilings i) (rises i)

  pub cuts-read : cuts_of (read b l).sheet ≡ cuts_in b
  unfolding contents
  cuts-read = rw whole.0 (sheet_cuts b whole.1.few_cuts)

module _ (p : Profile) (cs : List Cut) (l : Lists) (r : Roomy p l) (s : Reads (file p cs) p cs) where
  days : day_count (file p cs) ≡ p.days
  unfolding profile_in
  days = ap (λ (q : Profile). q.days) s.profile

  pub read-file : (read (file p cs) l).refusal ≡ 0
  unfolding contents
  read-file =
      rw (read_all (file p cs) (length l.floors) (length l.ceilings) (length l.rises) s.taken
      (record { floors-long = rw days r.floors; ceilings-long = rw days r.ceilings; rises-long = rw days r.rises })) refl

again : (p : Profile) (cs : List Cut) (out : List ℕ) (l : Lists) → (write_answer p cs (length out)).refusal ≡ 0 → Roomy p l → ReadAgain p cs out l
again p cs out l e r =
    let s = reads_again p cs (written_passed p cs out e) in
    let z : (read (file p cs) l).refusal ≡ 0 = read-file p cs l r s in
    record {
      taken = rw (written-file p cs out e) z;
      profile = rw (written-file p cs out e) (profile-read (file p cs) l z ∙ s.profile);
      cuts = rw (written-file p cs out e) (cuts-read (file p cs) l z ∙ s.cuts);
    }

back : (b : List ℕ) (l : Lists) (out : List ℕ) → Bytes b → (read b l).refusal ≡ 0
    → (write_answer (profile_found (read b l) (filled b l)) (cuts_of (read b l).sheet) (length out)).refusal ≡ 0 → WrittenBack b l out
back b l out bytes e w =
    let p : Profile = profile_found (read b l) (filled b l) in
    let cs : List Cut = cuts_of (read b l).sheet in
    let same : file p cs ≡ b = rw (profile-read b l e, cuts-read b l e) (written_back b bytes (not-refused b (whole b l e).1)) in
    record { same = written-file p cs out w ∙ same; rest = written-front p cs out w ∙ ap (λ xs. in_front xs out) same }

pub round_trips : RoundTrips
round_trips = record { again = again; back = back }
