-- Raising floors to a total over plain lists and numbers: what holds at the loop's head, and what starts, keeps and ends it.
use Prim.Native.Nat.{ℕ, suc, ◌+◌, ◌-◌, ◌≤◌, ◌<◌, max}
use mathlib.Core.Path.{◌≡◌, refl, ap, sym, ◌∙◌}
use mathlib.Core.List.{List}
use native.Mathlib.Omega.{arith}
use mathlib.Core.Bool.{cond}
use lib.Dec.{ltb}
use lib.ListN.{set}
use Rattle.theory_lists.specs.Sum.{at}
use Rattle.theory_lists.specs.Written.{written, written_below, written_same, written_own, last_written, last_none, last_more, last-before, last-front}
use Rattle.theory_method.specs.Filter.{box, InBounds, held}
use Rattle.theory_method.proofs.Stages.{by_order}
use Rattle.schedule_raising.specs.Raising.{raised_day, raised_from, raised_to}
use Rattle.schedule_raising.specs.declared.Raised.{Raised}

-- ---- raise_day

module _ (floor ceiling rise : ℕ) (next : Raised) where
  day-level : (raised_day floor ceiling rise next).level ≤ max floor ceiling
  unfolding raised_day
  day-level = omega arith

  day-rest : (raised_day floor ceiling rise next).rest ≤ next.rest
  unfolding raised_day
  day-rest = omega arith

-- ---- raise_to

raised_start : (fs cs rs : List ℕ) (n rest : ℕ) → raised_from fs cs rs n rest 0 ≡ record { level = 7000; rest = rest }
unfolding raised_from
raised_start fs cs rs n rest = refl

raised_at : (fs cs rs : List ℕ) (n rest k : ℕ) → k < n
    → raised_from fs cs rs n rest (n - k) ≡ raised_day (at fs k) (at cs k) (at rs k) (raised_from fs cs rs n rest (n - (k + 1)))
unfolding raised_from
raised_at fs cs rs n rest k h =
    let q : n - k ≡ suc (n - (k + 1)) = omega arith in
    let r : n - suc (n - (k + 1)) ≡ k = omega arith in
    rw (q, r)

-- at the loop's head, with the days from k on raised
pub record Raising (fs cs rs : List ℕ) (n rest : ℕ) (out : List ℕ) (day : Raised) (k : ℕ) : Type 0 where
  pub most : k ≤ n
  pub made : out ≡ last_written (λ m. (raised_from fs cs rs n rest m).level) n (n - k) fs
  pub same : day ≡ raised_from fs cs rs n rest (n - k)
  pub level : day.level ≤ 7000
  pub left : day.rest ≤ 2560000

module _ {fs cs rs : List ℕ} {n rest : ℕ} where
  pub raising_start : {r : ℕ} → r ≡ rest → r ≤ 2560000 → Raising fs cs rs n rest fs (record { level = 7000; rest = r }) n
  raising_start e h =
      let z : n - n ≡ 0 = omega arith in
      record {
        most = omega arith;
        made = rw z (sym (last_none _ n fs));
        same = rw (z, e) (sym (raised_start fs cs rs n rest));
        level = omega arith;
        left = h;
      }

  -- the days before the first counted one are as they were
  pub raising_end : (first : ℕ) {out : List ℕ} {day : Raised} {k : ℕ} → Raising fs cs rs n rest out day k → first ≤ k → k ≤ first
      → out ≡ written (λ j. cond (ltb j first) (at fs j) (raised_from fs cs rs n rest (n - j)).level) n fs
  raising_end first {out} {k = k} p l h =
      let e : k ≡ first = omega arith in
      let done : out ≡ last_written level n (n - first) fs = rw e at p.made in
      sym (written_same here (at out) first out kept ∙ written_own 0 first out) ∙ ap (written here first) done
      ∙ last-front level here n first fs (omega (arith, p.most)) (λ j a b. by_order (λ x. level (n - j) ≡ x) j first (λ u. absurd (omega arith)) (λ _. refl))
    where
      level : ℕ → ℕ
      level m = (raised_from fs cs rs n rest m).level

      here : ℕ → ℕ
      here j = cond (ltb j first) (at fs j) (raised_from fs cs rs n rest (n - j)).level

      kept : (j : ℕ) → j < first → here j ≡ at out j
      kept j u =
          let e : k ≡ first = omega arith in
          by_order (λ x. x ≡ at out j) j first
          (λ _. sym (ap (λ o. at o j) p.made ∙ last-before _ 0 n (n - k) fs j (omega (arith, p.most))))
          (λ v. absurd (omega arith))

-- a turn reads the day before k, and finds day'
module _ {fs cs rs : List ℕ} {n first rest L U : ℕ} {out : List ℕ} {day : Raised} {k : ℕ} (b : InBounds (box fs cs rs n first L U))
    (p : Raising fs cs rs n rest out day k) (more : first < k) where
  abbrev before_last : k - 1 < n
  before_last = omega (arith, p.most)

  floor : at out (k - 1) ≡ at fs (k - 1)
  floor = ap (λ l. at l (k - 1)) p.made ∙ last-before _ 0 n (n - k) fs (k - 1) (omega (arith, p.most))

  pub raising_asks : (at out (k - 1) ≤ 5000) × (at cs (k - 1) ≤ 5000) × (at rs (k - 1) ≤ 4000) × (day.level ≤ 7000) × (day.rest ≤ 2560000)
  raising_asks = (omega (arith, floor, b.floor (k - 1) before_last), b.ceiling (k - 1) before_last, b.rise (k - 1) before_last, p.level, p.left)

  module _ {day' : Raised} (e : day' ≡ raised_day (at out (k - 1)) (at cs (k - 1)) (at rs (k - 1)) day) where
    pub raising_level : day'.level ≤ 5000
    raising_level = rw e (omega (arith, day-level (at out (k - 1)) (at cs (k - 1)) (at rs (k - 1)) day, raising_asks.0, raising_asks.1))

    pub raising_turn : Raising fs cs rs n rest (set out (k - 1) day'.level) day' (k - 1)
    raising_turn =
        let q : n - k + 1 ≡ n - (k - 1) = omega (arith, p.most) in
        let r : n - (n - (k - 1)) ≡ k - 1 = omega (arith, p.most) in
        let t : k - 1 + 1 ≡ k = omega arith in
        let next : raised_from fs cs rs n rest (n - (k - 1)) ≡ raised_day (at fs (k - 1)) (at cs (k - 1)) (at rs (k - 1)) (raised_from fs cs rs n rest (n - k)) =
        rw t at (raised_at fs cs rs n rest (k - 1) (omega (arith, p.most))) in
        let here : day' ≡ raised_from fs cs rs n rest (n - (k - 1)) = e ∙ rw (floor, p.same) (sym next) in
        let stored : day'.level ≡ (raised_from fs cs rs n rest (n - k + 1)).level = rw q (ap (λ d. d.level) here) in
        record {
          most = omega (arith, p.most);
          made = ap (λ l. set l (k - 1) day'.level) p.made
              ∙ (rw (q, r) at (last_more (λ m. (raised_from fs cs rs n rest m).level) n (n - k) fs day'.level stored));
          same = here;
          level = omega (arith, raising_level);
          left = rw e (omega (arith, day-rest (at out (k - 1)) (at cs (k - 1)) (at rs (k - 1)) day, p.left));
        }

-- ---- the raised levels, as they stand in an array

module _ {fs cs rs : List ℕ} {n first L U : ℕ} (b : InBounds (box fs cs rs n first L U)) where
  level-small : (rest k : ℕ) → k < n → (raised_from fs cs rs n rest (n - k)).level ≤ 5000
  level-small rest k h =
      rw (raised_at fs cs rs n rest k h)
      (omega (arith, day-level (at fs k) (at cs k) (at rs k) (raised_from fs cs rs n rest (n - (k + 1))), b.floor k h, b.ceiling k h))

  module _ (t : ℕ) {out : List ℕ} (e : out ≡ written (raised_to fs cs rs n first t) n fs) where
    pub raised_stands : (k : ℕ) → k < n → at out k ≡ raised_to fs cs rs n first t k
    raised_stands k h = rw e (written_below (raised_to fs cs rs n first t) 0 n fs k h (omega (arith, b.floors, b.most)))

    pub raised-small : (k : ℕ) → k < n → at out k ≤ 5000
    raised-small k h =
        omega (arith, raised_stands k h, by_order (λ x. x ≤ 5000) k first (λ _. b.floor k h) (λ _. level-small (t - held n first (at fs)) k h))
