-- What holds of lists whose lengths were checked, of the points stored from them, and of lists that points are stored into.
use mathlib.Core.Path.{◌≡◌, refl, ap, sym, ◌∙◌}
use mathlib.Core.Bool.{Bool, ◌&&◌, and-eq-true_iff}
use mathlib.Core.List.{List}
use Prim.Native.Nat.{ℕ, ◌-◌, ◌*◌, ◌≤◌, ◌<◌}
use native.Mathlib.Omega.{arith}
use lib.IntN.{ℤ, pos}
use lib.Dec.{eqb, ltb}
use lib.ListN.{length, take, replicate, length-replicate}
use lib.Seq.{sets}
use borrow.Author.Tests.{ltb-false, eq-eqb, ne_eqb, eqb-true, eqb-false}
use Rattle.theory_lists.specs.Checks.{cond-zero, cond-first, or-false}
use Rattle.theory_lists.specs.ListOf.{list_of, length-list_of, take-written}
use Rattle.theory_lists.specs.Written.{written, length-written, written_below}
use Rattle.theory_lists.specs.Lent.{lent_list, list-filled}
use Rattle.theory_lists.specs.Front.{in_front}
use Rattle.theory_lists.specs.Rows.{rows, rows_same, length-rows, front-sets}
use Rattle.base_codes.specs.Code.{on}
use Rattle.base_little_endian.specs.Fields.{i16_bytes}
use Rattle.base_little_endian.proofs.Laws.{i16_length}
use Rattle.c_lists.specs.Lists.{point_at, points_in, point_bytes, lent_points}
use Rattle.c_lists.specs.Profiles.{ByteProfile, byte_counts_refusal, byte_length_refusal}

-- what 1 and 2 let pass
pub record Long (h : ByteProfile) : Type 0 where
  pub some : 0 < h.numbers.days
  pub few : h.numbers.days ≤ 512
  pub floors-long : length h.floors ≡ h.numbers.days * 2
  pub ceilings-long : length h.ceilings ≡ h.numbers.days * 2
  pub rises-long : length h.rises ≡ (h.numbers.days - 1) * 2

pub long : (h : ByteProfile) → byte_length_refusal h ≡ 0 → Long h
unfolding byte_counts_refusal
long h e =
    let n : ℕ = h.numbers.days in
    let floors : Bool = eqb (length h.floors) (n * 2) in
    let ceilings : Bool = eqb (length h.ceilings) (n * 2) in
    let rises : Bool = eqb (length h.rises) ((n - 1) * 2) in
    let checks = cond-zero _ 0 _ e in
    let counts = or-false (eqb n 0) (ltb 512 n) checks.0 in
    let apart : (n ≡ 0 → ⊥) = eqb-false n 0 counts.0 in
    let all = (and-eq-true_iff (floors && ceilings) rises).0 (cond-first (floors && ceilings && rises) 1 checks.1) in
    let two = (and-eq-true_iff floors ceilings).0 all.0 in
    record {
      some = omega (arith, apart);
      few = ltb-false 512 n counts.1;
      floors-long = eqb-true _ _ two.0;
      ceilings-long = eqb-true _ _ two.1;
      rises-long = eqb-true _ _ all.1;
    }

-- an array whose first n places hold the first n points of a list
pub record Held (b : List ℕ) (n : ℕ) (l : List ℤ) : Type 0 where
  pub room : n ≤ length l
  pub long : n ≡ length (take n l)
  pub same : take n l ≡ points_in b n

pub held : (b : List ℕ) (n : ℕ) {l : List ℤ} → n ≤ 512 → l ≡ written (point_at b) n (replicate 512 (pos 0)) → Held b n l
unfolding points_in
held b n {l} few e =
    let zeros : List ℤ = replicate 512 (pos 0) in
    let size : length zeros ≡ 512 = length-replicate 512 (pos 0) in
    let same : take n l ≡ list_of (point_at b) n = rw e (take-written (point_at b) n zeros (omega arith)) in
    record {
      room = rw e (omega (arith, length-written (point_at b) n zeros));
      long = rw same (sym (length-list_of (point_at b) n));
      same = same;
    }

-- ---- points stored as the front of a list

pub points_front : (f g : ℕ → ℤ) (n : ℕ) (l : List ℕ) {out : List ℕ} → ((k : ℕ) → k < n → g k ≡ f k) → n * 2 ≤ length l
    → out ≡ sets l 0 (point_bytes g n) → out ≡ in_front (point_bytes f n) l
unfolding point_bytes
points_front f g n l same room e =
    let row : (ℕ → ℤ) → ℕ → List ℕ = λ h k. i16_bytes (h k) in
    e ∙ rw (← rows_same (row g) (row f) n (λ k h. ap i16_bytes (same k h))) (front-sets (rows (row g) n) l (omega (arith, length-rows (row g) 2 n (λ k h. i16_length (g k)))))

-- what stands in a lent list
lent_at : {refusal n : ℕ} (f : ℕ → ℤ) {points : List ℤ} (l : List ℤ) → refusal ≡ 0 → n ≤ length l → points ≡ lent_list refusal f n l → (k : ℕ) → k < n → on points k ≡ f k
lent_at {refusal} {n} f l z h e k u = rw (e, list-filled refusal f n l z) (written_below f (pos 0) n l k u h)

-- n points of an array that was lent and filled, stored as the front of the list l, which gives out
pub record Handing (refusal : ℕ) (f : ℕ → ℤ) (n : ℕ) (l : List ℕ) (points : List ℤ) (out : List ℕ) : Type 0 where
  pub none : refusal ≡ 0
  pub few : n ≤ 512
  pub room : n * 2 ≤ length l
  pub lent : points ≡ lent_list refusal f n (replicate 512 (pos 0))
  pub stored : out ≡ sets l 0 (point_bytes (on points) n)

pub points_stored : {refusal : ℕ} (f : ℕ → ℤ) (n : ℕ) (l : List ℕ) {points : List ℤ} {out : List ℕ} → Handing refusal f n l points out → out ≡ in_front (point_bytes f n) l
points_stored f n l {points} h =
    points_front f (on points) n l (lent_at f (replicate 512 (pos 0)) h.none (omega (arith, h.few, length-replicate 512 (pos 0))) h.lent) h.room h.stored

-- a list by the refusal
module _ (refusal : ℕ) (f : ℕ → ℤ) (n : ℕ) (l : List ℕ) where
  pub points_left : (refusal ≡ 0 → ⊥) → lent_points refusal f n l ≡ l
  unfolding lent_points
  points_left h = rw (ne_eqb refusal 0 h) refl

  pub points_filled : refusal ≡ 0 → lent_points refusal f n l ≡ in_front (point_bytes f n) l
  unfolding lent_points
  points_filled z = rw (eq-eqb refusal 0 z) refl
