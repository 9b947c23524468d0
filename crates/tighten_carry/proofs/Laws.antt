-- The loops over plain lists and numbers: a record of what holds at each loop's head, what starts it, what a turn does, and each way out.
use Prim.Native.Nat.{ℕ, suc, ◌+◌, ◌-◌, ◌≤◌, ◌<◌, min, max}
use mathlib.Core.Path.{◌≡◌, refl, ap, sym, ◌∙◌}
use mathlib.Core.List.{List}
use native.Mathlib.Numerals.{add-one}
use native.Mathlib.Omega.{arith}
use borrow.Author.Tests.{lt-ltb, le-ltb}
use lib.Dec.{ltb}
use lib.ListN.{set}
use Rattle.theory_lists.specs.Sum.{at}
use Rattle.theory_lists.specs.Written.{written, last_written, written-past, last_none, last_more, last-before, last-all}
use Rattle.theory_lists.specs.First.{Nowhere, nowhere_none, nowhere_more, nowhere_here, nowhere_all}
use Rattle.theory_lists.specs.Filled.{Filled, filled_none, filled_more, filled-all}
use Rattle.theory_method.specs.Filter.{carried, first_crossed}
use Rattle.tighten_carry.specs.Back.{back_from, carried_back}

-- ---- carrying: the floors below i are carried and uncrossed, and day i is to be at least up - 2000

pub record Upto (fs cs rs : List ℕ) (n i up : ℕ) (out : List ℕ) : Type 0 where
  pub under : Nowhere (λ k. ltb (at cs k) (carried fs rs k)) n i
  pub floors : Filled (carried fs rs) n i fs out
  pub next : carried fs rs i ≡ max (at fs i + 2000) up - 2000

-- what is left: r days carried, the first crossed day or all n
abbrev Left : List ℕ → List ℕ → List ℕ → ℕ → ℕ → List ℕ → Type 0
Left fs cs rs n r out = (r ≡ first_crossed (carried fs rs) (at cs) n) × (out ≡ written (carried fs rs) r fs)

module _ {fs cs rs : List ℕ} {n : ℕ} where
  pub upto-none : Upto fs cs rs n 0 0 fs
  unfolding carried
  upto-none = record { under = nowhere_none; floors = filled_none; next = omega arith }

  pub upto_all : {i up : ℕ} {out : List ℕ} → Upto fs cs rs n i up out → n ≤ i → Left fs cs rs n n out
  upto_all h l = (nowhere_all h.under l, filled-all h.floors l)

  -- a turn computes what day i is to be at least, plus 2000: m
  module _ {i up : ℕ} {out : List ℕ} (h : Upto fs cs rs n i up out) (more : i < n) {m : ℕ} (q : m ≡ max (at out i + 2000) up) where
    floor : m - 2000 ≡ carried fs rs i
    floor = omega (arith, h.next, ap (λ o. at o i) h.floors.made, written-past (carried fs rs) 0 i fs i (omega arith))

    pub upto-crossed : at cs i < m - 2000 → Left fs cs rs n i out
    upto-crossed u = (nowhere_here h.under more (lt-ltb (at cs i) (carried fs rs i) (omega (arith, floor))), h.floors.made)

    pub upto-more : m - 2000 ≤ at cs i → Upto fs cs rs n (i + 1) (m - 2000 + at rs i) (set out i (m - 2000))
    unfolding carried
    upto-more u =
        record {
          under = nowhere_more h.under more (le-ltb (at cs i) (carried fs rs i) (omega (arith, floor)));
          floors = filled_more h.floors more floor;
          next = rw add-one (omega (arith, floor));
        }

-- ---- carrying back: the days from i on are carried, and the last of them is at `high`

pub record Backing (l rs : List ℕ) (n : ℕ) (out : List ℕ) (high i : ℕ) : Type 0 where
  pub most : i ≤ n
  pub small : high < 65536
  pub level : high ≡ back_from l rs n (n - i)
  pub made : out ≡ last_written (back_from l rs n) n (n - i) l

module _ {l rs : List ℕ} {n : ℕ} where
  pub back_start : at l n < 65536 → Backing l rs n l (at l n) n
  unfolding back_from
  back_start q =
      let z : n - n ≡ 0 = omega arith in
      record { most = omega arith; small = q; level = rw z refl; made = rw z (sym (last_none _ n l)) }

  pub back_end : {out : List ℕ} {high i : ℕ} → Backing l rs n out high i → i ≤ 0 → out ≡ written (carried_back l rs n) n l
  back_end {i = i} t h =
      let z : n - i ≡ n = omega arith in
      (rw z at t.made) ∙ last-all (back_from l rs n) (carried_back l rs n) n l (λ k u. refl)

  -- a turn computes the level v of day i - 1
  module _ {out : List ℕ} {high i : ℕ} (t : Backing l rs n out high i) (h : 0 < i) {m v : ℕ} (qm : m ≡ high + 2000 - at rs (i - 1))
      (qv : v ≡ min m (at out (i - 1))) where
    next : v ≡ back_from l rs n (n - i + 1)
    unfolding back_from
    next =
        let m : n - i + 1 ≡ suc (n - i) = omega arith in
        let k : n - suc (n - i) ≡ i - 1 = omega (arith, t.most) in
        let old : at out (i - 1) ≡ at l (i - 1) = ap (λ o. at o (i - 1)) t.made ∙ last-before _ 0 n (n - i) l (i - 1) (omega (arith, t.most)) in
        rw (m, k) (omega (arith, qv, qm, old, t.level))

    pub back_turn : at out (i - 1) < 65536 → Backing l rs n (set out (i - 1) v) v (i - 1)
    back_turn small =
        let m : n - i + 1 ≡ n - (i - 1) = omega (arith, t.most) in
        let k : n - (n - (i - 1)) ≡ i - 1 = omega (arith, t.most) in
        record {
          most = omega (arith, t.most);
          small = omega (arith, qv);
          level = rw m at next;
          made = ap (λ o. set o (i - 1) v) t.made ∙ (rw (m, k) at (last_more (back_from l rs n) n (n - i) l v next));
        }
