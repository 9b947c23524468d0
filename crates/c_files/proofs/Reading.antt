-- What `read` gives and leaves in its lists, by the checks that refuse and by the bytes that it stores.
use Rattle.std.specs.Prelude.{Result, Ok, Err}
use Prim.Native.Nat.{ℕ, ◌-◌, ◌*◌, ◌/◌, ◌≤◌}
use mathlib.Core.Path.{◌≡◌, refl, ap, sym, ◌∙◌}
use mathlib.Core.Bool.{Bool, true, false, ◌||◌}
use mathlib.Core.List.{List}
use native.Mathlib.Omega.{arith}
use lib.IntN.{ℤ, pos}
use lib.Dec.{ltb}
use lib.ListN.{length, drop, length-drop, replicate}
use lib.Seq.{sets}
use borrow.Author.Tests.{ltb-false, ne_eqb}
use Rattle.theory_lists.specs.Checks.{or-false}
use Rattle.theory_lists.specs.Lent.{lent_list}
use Rattle.theory_lists.specs.Rows.{front-sets}
use Rattle.base_codes.specs.Code.{on}
use Rattle.refusals.specs.declared.Refusal.{Refusal}
use Rattle.refusals.specs.declared.Refusal.TheVariants.{Length}
use Rattle.refusals.specs.Number.{refusal_number, refusal_of}
use Rattle.refusals.proofs.Laws.{refused}
use Rattle.c_lists.specs.Lists.{point_bytes, lent_points}
use Rattle.c_lists.proofs.Laws.{Handing, points_stored}
use Rattle.file_format.specs.Format.{day_offset, day_count, cut_count, floor_at, ceiling_at, rise_at}
use Rattle.file_format.specs.Reading.{early_reading}
use Rattle.file_format.proofs.Taken.{Taken, not-refused}
use Rattle.file_reading.specs.Reading.{ReadAnswer, refused_read, contents, read_from}
use Rattle.file_reading.proofs.Laws.{read_number, read_taken}
use Rattle.c_files.specs.declared.Contents as Code
use Rattle.c_files.specs.Reading.{no_room_over, reading_refusal_over, contents_as, read_into, cuts_lent}

-- what the reader of files found, where it refused nothing
pub record Found (b : List ℕ) (r : ReadAnswer) : Type 0 where
  pub taken : Taken b
  pub days : r.numbers.days ≡ day_count b
  pub all : r ≡ contents b

pub found : (b : List ℕ) {r : ReadAnswer} → r ≡ read_from b 512 512 512 → r.refusal ≡ 0 → Found b r
unfolding contents
found b e z =
    let t = read_taken b 512 512 512 (sym (ap (λ a. a.refusal) e) ∙ z) in
    record { taken = t.1; days = ap (λ a. a.numbers.days) (e ∙ t.0); all = e ∙ t.0 }

-- what 2 lets pass
pub record Room (n m floors ceilings rises cuts : ℕ) : Type 0 where
  pub floors-long : n * 2 ≤ floors
  pub ceilings-long : n * 2 ≤ ceilings
  pub rises-long : (n - 1) * 2 ≤ rises
  pub cuts-long : m * 8 ≤ cuts

pub roomy : (n m floors ceilings rises cuts : ℕ) → no_room_over n m floors ceilings rises cuts ≡ false → Room n m floors ceilings rises cuts
roomy n m floors ceilings rises cuts e =
    let low : Bool = ltb (floors / 2) n in
    let high : Bool = ltb (ceilings / 2) n in
    let steps : Bool = ltb (rises / 2) (n - 1) in
    let three = or-false (low || high || steps) (ltb cuts (m * 8)) e in
    let two = or-false (low || high) steps three.0 in
    let one = or-false low high two.0 in
    record {
      floors-long = omega (arith, ltb-false (floors / 2) n one.0);
      ceilings-long = omega (arith, ltb-false (ceilings / 2) n one.1);
      rises-long = omega (arith, ltb-false (rises / 2) (n - 1) two.1);
      cuts-long = ltb-false _ _ three.1;
    }

module _ (b fs cs rs ks : List ℕ) where
  -- what `read` ensures
  abbrev Answers : Result Code.Contents Refusal → List ℕ → List ℕ → List ℕ → List ℕ → Type 0
  Answers r floors ceilings rises cuts =
      (contents_as r ≡ read_into b (length fs) (length cs) (length rs) (length ks))
      × ((floors ≡ lent_points (refusal_of r) (floor_at b) (day_count b) fs)
      × ((ceilings ≡ lent_points (refusal_of r) (ceiling_at b) (day_count b) cs)
      × ((rises ≡ lent_points (refusal_of r) (rise_at b) (day_count b - 1) rs)
      × (cuts ≡ cuts_lent (refusal_of r) b ks))))

  refused_by : (r : Refusal) → reading_refusal_over b (length fs) (length cs) (length rs) (length ks) ≡ refusal_number r → Answers (Err r) fs cs rs ks
  unfolding read_into lent_points cuts_lent
  refused_by r e = let test = ne_eqb (refusal_number r) 0 (refused r) in (rw (e, test), (rw test, (rw test, (rw test, rw test))))

  pub bad_file : (r : Refusal) → refused_read (refusal_number r) ≡ read_from b 512 512 512 → Answers (Err r) fs cs rs ks
  unfolding reading_refusal_over
  bad_file r e =
      let number : refusal_number r ≡ early_reading b = ap (λ (s : ReadAnswer). s.refusal) e ∙ read_number b 512 512 512 (omega arith) (omega arith) (omega arith) in
      refused_by r (rw (← number, ne_eqb (refusal_number r) 0 (refused r)))

  pub too_short : {a : ReadAnswer} {m : ℕ} → Found b a → m ≡ cut_count b → no_room_over a.numbers.days m (length fs) (length cs) (length rs) (length ks) ≡ true → Answers (Err Length) fs cs rs ks
  unfolding reading_refusal_over
  too_short here em e = refused_by Length (rw (not-refused b here.taken, rw (here.days, em) at e))

  -- what has passed: the file's own checks, with m cuts in it, and 2
  pub record Passed (a : ReadAnswer) (m : ℕ) : Type 0 where
    pub found : Found b a
    pub count : m ≡ cut_count b
    pub room : no_room_over a.numbers.days m (length fs) (length cs) (length rs) (length ks) ≡ false

  -- what is stored in the lists: the points, by way of the arrays that the reader of files filled, and the file's cuts as they stand
  pub record Stored (a : ReadAnswer) (floors ceilings rises cuts : List ℕ) : Type 0 where
    pub low : List ℤ
    pub high : List ℤ
    pub steps : List ℤ
    pub low_read : low ≡ lent_list a.refusal (floor_at b) (day_count b) (replicate 512 (pos 0))
    pub high_read : high ≡ lent_list a.refusal (ceiling_at b) (day_count b) (replicate 512 (pos 0))
    pub steps-read : steps ≡ lent_list a.refusal (rise_at b) (day_count b - 1) (replicate 512 (pos 0))
    pub floors_put : floors ≡ sets fs 0 (point_bytes (on low) a.numbers.days)
    pub ceilings_put : ceilings ≡ sets cs 0 (point_bytes (on high) a.numbers.days)
    pub rises_put : rises ≡ sets rs 0 (point_bytes (on steps) (a.numbers.days - 1))
    pub cuts_put : cuts ≡ sets ks 0 (drop (day_offset a.numbers.days) b)

  pub read_all : {a : ReadAnswer} {m : ℕ} {floors ceilings rises cuts : List ℕ} → Passed a m → Stored a floors ceilings rises cuts
      → Answers (Ok (record { numbers = a.numbers; cuts = m })) floors ceilings rises cuts
  unfolding reading_refusal_over read_into contents lent_points cuts_lent
  read_all {a} {m} p s =
      let here = p.found in
      let n = here.days in
      let z : a.refusal ≡ 0 = ap (λ q. q.refusal) here.all in
      let few : a.numbers.days ≤ 512 = omega (arith, here.taken.few) in
      let less : a.numbers.days - 1 ≤ 512 = omega arith in
      let room = roomy a.numbers.days m (length fs) (length cs) (length rs) (length ks) p.room in
      let low : Handing a.refusal (floor_at b) a.numbers.days fs s.low _ = record { none = z; few = few; room = room.floors-long; lent = rw (← n) at s.low_read; stored = s.floors_put } in
      let high : Handing a.refusal (ceiling_at b) a.numbers.days cs s.high _ = record { none = z; few = few; room = room.ceilings-long; lent = rw (← n) at s.high_read; stored = s.ceilings_put } in
      let steps : Handing a.refusal (rise_at b) (a.numbers.days - 1) rs s.steps _ = record { none = z; few = less; room = room.rises-long; lent = rw (← n) at s.steps-read; stored = s.rises_put } in
      let rest = s.cuts_put ∙ front-sets (drop (day_offset a.numbers.days) b) ks (omega (arith, length-drop (day_offset a.numbers.days) b, here.taken.whole, room.cuts-long)) in (
        rw (not-refused b here.taken, rw (n, p.count) at p.room, p.count, here.all) refl,
        (rw (← n) (points_stored (floor_at b) a.numbers.days fs low), (rw (← n) (points_stored (ceiling_at b) a.numbers.days cs high), (rw (← n) (points_stored (rise_at b) (a.numbers.days - 1) rs steps), rw (← n) rest))),
      )
