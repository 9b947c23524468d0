-- The floors raised from the last day on keep floors, ceilings and rises, and have the total asked for wherever some levels have it.
use Prim.Native.Nat.{ℕ, zero, suc, ◌+◌, ◌-◌, ◌≤◌, ◌<◌, min, max}
use mathlib.Core.Path.{◌≡◌, refl, ap, sym, ◌∙◌}
use mathlib.Core.Bool.{true, cond, true≢false}
use mathlib.Core.List.{List}
use native.Mathlib.Numerals.{add-one}
use native.Mathlib.Nat.{le_refl}
use native.Mathlib.Omega.{arith}
use native.Mathlib.Decide.{dec_le, dec_lt}
use lib.Dec.{ltb}
use Rattle.theory_lists.specs.Sum.{at}
use Rattle.theory_chains.specs.Sum.{sum, weigh, sum_eq, sum_le, sum_le_counted}
use Rattle.theory_method.specs.Counted.{counted, counted_in, counted-before}
use Rattle.theory_method.specs.Filter.{box, held}
use Rattle.theory_method.specs.Levels.{Levels}
use Rattle.theory_method.specs.Stages.{Ready}
use Rattle.theory_method.proofs.Stages.{by_order}
use Rattle.schedule_raising.specs.Raising.{raised_day, raised_from, raised_to}

module _ {fs cs rs : List ℕ} {n : ℕ} (r : Ready fs cs rs n) (rest : ℕ) where
  -- the level of the m-th day from the end, and what the sum lacks then
  abbrev level : ℕ → ℕ
  level m = (raised_from fs cs rs n rest m).level

  abbrev lacks : ℕ → ℕ
  lacks m = (raised_from fs cs rs n rest m).rest

  -- the day n - suc m, after the m days from the end
  record Turn (m : ℕ) : Type 0 where
    floor : at fs (n - suc m) ≤ level (suc m)
    ceiling : level (suc m) ≤ at cs (n - suc m)
    rise : level (suc m) + at rs (n - suc m) ≤ level m + 2000
    sum : lacks (suc m) + level (suc m) ≡ at fs (n - suc m) + lacks m
    -- short of its limits only where the sum lacks nothing more
    full : 0 < lacks (suc m) → level (suc m) ≡ min (at cs (n - suc m)) (level m + 2000 - at rs (n - suc m))

  turn_from : (m : ℕ) → m < n → at fs (n - suc m) + at rs (n - suc m) ≤ level m + 2000 → Turn m
  unfolding raised_from raised_day
  turn_from m h low =
      let f = r.fits (n - suc m) (omega arith) in
      record {
        floor = omega arith;
        ceiling = omega arith;
        rise = omega arith;
        sum = omega arith;
        full = λ l. omega arith;
      }

  turn : (m : ℕ) → m < n → Turn m
  unfolding raised_from
  turn zero h = turn_from zero h (omega (arith, r.fits (n - 1) (omega arith), r.ceiling (n - 1) (omega arith), r.rise (n - 1) (omega arith)))
  turn (suc m) h =
      let t = turn m (omega arith) in
      let e : n - suc (suc m) + 1 ≡ n - suc m = omega arith in
      turn_from (suc m) h (omega (arith, t.floor, rw e at (r.rising (n - suc (suc m)) (omega arith))))

  -- day k, counted from the front
  day : (k : ℕ) → k < n → (at fs k ≤ level (n - k)) × (level (n - k) ≤ at cs k) × (lacks (n - k) + level (n - k) ≡ at fs k + lacks (n - (k + 1)))
  day k h =
      let t = turn (n - (k + 1)) (omega arith) in
      let e : suc (n - (k + 1)) ≡ n - k = omega arith in
      let f : n - (n - k) ≡ k = omega arith in
      (rw (e, f) at t.floor, rw (e, f) at t.ceiling, rw (e, f) at t.sum)

  rises : (k : ℕ) → k + 1 < n → level (n - k) + at rs k ≤ level (n - (k + 1)) + 2000
  rises k h =
      let t = turn (n - (k + 1)) (omega arith) in
      let e : suc (n - (k + 1)) ≡ n - k = omega arith in
      let f : n - (n - k) ≡ k = omega arith in
      rw (e, f) at t.rise

  -- the counted days raised, those before them at their floors
  module _ (first : ℕ) (counts : first < n) where
    abbrev y : ℕ → ℕ
    y k = cond (ltb k first) (at fs k) (level (n - k))

    early : (k : ℕ) → k < first → cond (ltb k first) (at fs k) (level (n - k)) ≡ at fs k
    early k h = by_order (λ x. x ≡ at fs k) k first (λ _. refl) (λ l. absurd (omega arith))

    late : (k : ℕ) → first ≤ k → cond (ltb k first) (at fs k) (level (n - k)) ≡ level (n - k)
    late k h = by_order (λ x. x ≡ level (n - k)) k first (λ l. absurd (omega arith)) (λ _. refl)

    y_floor : (k : ℕ) → k < n → at fs k ≤ y k
    y_floor k h = by_order (λ x. at fs k ≤ x) k first (λ _. le_refl (at fs k)) (λ _. (day k h).0)

    y_ceiling : (k : ℕ) → k < n → y k ≤ at cs k
    y_ceiling k h = by_order (λ x. x ≤ at cs k) k first (λ _. r.fits k h) (λ _. (day k h).1)

    y_rises : (k : ℕ) → k + 1 < n → y k + at rs k ≤ y (k + 1) + 2000
    y_rises k h = go (dec_lt k first)
      where
        go : Dec (k < first) → y k + at rs k ≤ y (k + 1) + 2000
        go (yes l) = omega (arith, early k l, y_floor (k + 1) h, r.rising k h)
        go (no l) = omega (arith, late k (omega arith), late (k + 1) (omega arith), rises k h)

    none-raised : (m : ℕ) → m ≤ first → sum (counted first n) m y ≡ sum (counted first n) m (at fs)
    none-raised m u = sum_eq (counted first n) m y (at fs) (λ k v. early k (omega arith))

    sum-from : (d : ℕ) → d ≤ n → first ≤ d → sum (counted first n) d y + lacks (n - first) ≡ sum (counted first n) d (at fs) + lacks (n - d)
    sum-from zero h l = let e : first ≡ 0 = omega arith in rw e (omega arith)
    sum-from (suc d) h l = go (dec_le first d) (sum-from d (omega arith))
      where
        go : Dec (first ≤ d) → (first ≤ d → sum (counted first n) d y + lacks (n - first) ≡ sum (counted first n) d (at fs) + lacks (n - d))
            → sum (counted first n) d y + weigh (counted first n d) (y d) + lacks (n - first) ≡ sum (counted first n) d (at fs) + weigh (counted first n d) (at fs d) + lacks (n - suc d)
        go (yes u) before =
            rw (counted_in first n d u h) (omega (arith, before u, late d u, rw add-one at (day d h).2))
        go (no u) before =
            let e : suc d ≡ first = omega arith in
            rw (counted-before first n d (omega arith)) (omega (arith, none-raised d (omega arith), ap (λ (k : ℕ). lacks (n - k)) e))

    lacks_less : (d : ℕ) → d ≤ n → first ≤ d → lacks (n - first) ≤ lacks (n - d)
    lacks_less d h l = let e : first + (d - first) ≡ d = omega arith in rw e at (go (d - first) (omega arith))
      where
        go : (m : ℕ) → first + m ≤ n → lacks (n - first) ≤ lacks (n - (first + m))
        go zero u = let e : first + 0 ≡ first = omega arith in rw e (omega arith)
        go (suc m) u =
            let e : first + suc m ≡ first + m + 1 = omega arith in
            rw e (omega (arith, go m (omega arith), (day (first + m) (omega arith)).0, (day (first + m) (omega arith)).2))

    whole : sum (counted first n) n y + lacks (n - first) ≡ sum (counted first n) n (at fs) + rest
    unfolding raised_from
    whole = let e : n - n ≡ 0 = omega arith in rw e at (sum-from n (omega arith) (omega arith))

    -- levels below the ceilings that keep the rises are below these on counted days while the sum lacks something
    module _ (z : ℕ → ℕ) (below : (k : ℕ) → k < n → z k ≤ at cs k) (keeps : (k : ℕ) → k + 1 < n → z k + at rs k ≤ z (k + 1) + 2000) where
      ahead : (m : ℕ) → m < n → 0 < lacks (suc m) → z (n - suc m) ≤ level (suc m)
      unfolding raised_from
      ahead zero h l =
          omega (arith, (turn zero h).full l, below (n - 1) (omega arith), r.ceiling (n - 1) (omega arith), r.rise (n - 1) (omega arith))
      ahead (suc m) h l =
          let t = turn (suc m) h in
          let e : n - suc (suc m) + 1 ≡ n - suc m = omega arith in
          let before = ahead m (omega arith) (omega (arith, t.sum, t.floor)) in
          omega (arith, t.full l, below (n - suc (suc m)) (omega arith), rw e at (keeps (n - suc (suc m)) (omega arith)))

      below_raised : 0 < lacks (n - first) → (k : ℕ) → k < n → counted first n k ≡ true → z k ≤ y k
      below_raised l k h c = go (dec_le first k)
        where
          e : suc (n - (k + 1)) ≡ n - k
          e = omega arith

          f : n - (n - k) ≡ k
          f = omega arith

          go : Dec (first ≤ k) → z k ≤ y k
          go (yes u) = rw (late k u) (rw (e, f) at (ahead (n - (k + 1)) (omega arith) (rw e (omega (arith, lacks_less k (omega arith) u)))))
          go (no u) = absurd (true≢false (sym c ∙ counted-before first n k (omega arith)))

      -- so the sum lacks nothing where theirs is as large
      nothing_lacks : sum (counted first n) n (at fs) + rest ≤ sum (counted first n) n z → lacks (n - first) ≡ 0
      nothing_lacks large = go (dec_lt 0 (lacks (n - first)))
        where
          go : Dec (0 < lacks (n - first)) → lacks (n - first) ≡ 0
          go (yes l) = absurd (omega (arith, whole, sum_le_counted (counted first n) n z y (below_raised l)))
          go (no l) = omega arith

-- where some levels have the total t, or more, the raised ones have it, or that of the floors if it is larger
pub raised_levels : {fs cs rs : List ℕ} {n first : ℕ} → Ready fs cs rs n → first < n → (t U : ℕ) (z : ℕ → ℕ) → Levels (box fs cs rs n first t U) z
    → Levels (box fs cs rs n first (max t (held n first (at fs))) (max t (held n first (at fs)))) (raised_to fs cs rs n first t)
raised_levels {fs} {cs} {rs} {n} {first} r counts t U z l =
    record {
      floor = y_floor r rest first counts;
      ceiling = y_ceiling r rest first counts;
      rise = y_rises r rest first counts;
      least = omega (arith, total);
      most = omega (arith, total);
    }
  where
    rest : ℕ
    rest = t - held n first (at fs)

    none : lacks r rest (n - first) ≡ 0
    none = nothing_lacks r rest first counts z l.ceiling l.rise (omega (arith, l.least, sum_le (counted first n) n (at fs) z l.floor))

    total : sum (counted first n) n (raised_to fs cs rs n first t) ≡ sum (counted first n) n (at fs) + (t - held n first (at fs))
    total = omega (arith, whole r rest first counts, none)
