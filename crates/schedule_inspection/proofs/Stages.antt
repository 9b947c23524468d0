-- Inspecting by what its tests found: which rules are kept so far, and a law for each return.
use mathlib.Core.Path.{◌≡◌, refl}
use mathlib.Core.Bool.{Bool, true, false, cond}
use mathlib.Core.List.{List}
use Prim.Native.Nat.{ℕ, ◌-◌, ◌≤◌, ◌<◌}
use native.Mathlib.Nat.{le_refl}
use native.Mathlib.Omega.{arith}
use native.Mathlib.Decide.{dec_lt}
use lib.IntN.{ℤ}
use lib.Dec.{ltb}
use lib.ListN.{length}
use borrow.Author.Tests.{eq-eqb, ne_eqb, lt-ltb, le-ltb}
use Rattle.std.specs.Prelude.{Option, None, Some, MatchOption}
use Rattle.theory_lists.specs.First.{first_where, Nowhere, nowhere_here, nowhere_all}
use Rattle.session.specs.declared.Session.{Session}
use Rattle.schedule_inspection.specs.Inspecting.{refused, kept, broken, judged, inspected}
use Rattle.schedule_inspection.specs.Stages.{day_outside, fallen, total_outside, first_found, judged_codes}

-- ---- first_outside and first_fallen

module _ (t : ℕ → Bool) (n : ℕ) where
  -- what looking from 0 on finds, and that it finds nothing
  pub found_here : {i : ℕ} → Nowhere t n i → i < n → t i ≡ true → Some i ≡ first_found t n
  unfolding first_found
  found_here {i} h l e = rw (← nowhere_here h l e, lt-ltb i n l) refl

  pub found_none : {i : ℕ} → Nowhere t n i → n ≤ i → None ≡ first_found t n
  unfolding first_found
  found_none h l = rw (← nowhere_all h l, le-ltb n n (le_refl n)) refl

  -- what it says of the first
  pub seen : (r : Option ℕ) → r ≡ first_found t n → MatchOption r (n ≤ first_where t n) (λ k. (k ≡ first_where t n) × (k < n))
  unfolding first_found
  seen r e = rw e (go (dec_lt (first_where t n) n))
    where
      go : Dec (first_where t n < n)
          → MatchOption (cond (ltb (first_where t n) n) (Some (first_where t n)) None) (n ≤ first_where t n) (λ k. (k ≡ first_where t n) × (k < n))
      go (yes l) = rw (lt-ltb (first_where t n) n l) (refl, l)
      go (no l) = let m : n ≤ first_where t n = omega arith in rw (le-ltb (first_where t n) n m) m

-- ---- judge_codes

-- no day is outside its range, and no rise is broken
pub record DaysKept (xs fs cs : List ℕ) (n : ℕ) : Type 0 where
  pub days : n ≤ first_where (day_outside xs fs cs) n

pub record RisesKept (xs fs cs rs : List ℕ) (n : ℕ) : Type 0 where
  pub before : DaysKept xs fs cs n
  pub rises : n - 1 ≤ first_where (fallen xs rs) (n - 1)

module _ (xs fs cs rs : List ℕ) (n first least most : ℕ) where
  pub day-broken : {day : ℕ} → day ≡ first_where (day_outside xs fs cs) n → day < n → broken 1 day ≡ judged_codes xs fs cs rs n first least most
  unfolding judged_codes
  day-broken {day} e h = rw (← e, lt-ltb day n h)

  pub rise-broken : DaysKept xs fs cs n → {rise : ℕ} → rise ≡ first_where (fallen xs rs) (n - 1) → rise < n - 1 → broken 2 rise ≡ judged_codes xs fs cs rs n first least most
  unfolding judged_codes
  rise-broken d {rise} e h = rw (le-ltb (first_where (day_outside xs fs cs) n) n d.days, ← e, lt-ltb rise (n - 1) h)

  module _ (d : RisesKept xs fs cs rs n) {t : Bool} (e : t ≡ total_outside xs n first least most) where
    pub total-broken : t ≡ true → broken 3 0 ≡ judged_codes xs fs cs rs n first least most
    unfolding judged_codes
    total-broken h = rw (le-ltb (first_where (day_outside xs fs cs) n) n d.before.days, le-ltb (first_where (fallen xs rs) (n - 1)) (n - 1) d.rises, ← e, h)

    pub none-broken : t ≡ false → kept ≡ judged_codes xs fs cs rs n first least most
    unfolding judged_codes
    none-broken h = rw (le-ltb (first_where (day_outside xs fs cs) n) n d.before.days, le-ltb (first_where (fallen xs rs) (n - 1)) (n - 1) d.rises, ← e, h)

-- ---- inspect

module _ (s : Session) (x : List ℤ) where
  pub wrong_length : (length x ≡ s.days → ⊥) → refused 2 ≡ inspected s x
  unfolding inspected
  wrong_length h = rw (ne_eqb (length x) s.days h)

  module _ (whole : length x ≡ s.days) where
    pub spent-refused : s.spent ≡ true → refused 9 ≡ inspected s x
    unfolding inspected
    spent-refused h = rw (eq-eqb (length x) s.days whole, h)

    pub unspent-judged : s.spent ≡ false → judged s x ≡ inspected s x
    unfolding inspected
    unspent-judged h = rw (eq-eqb (length x) s.days whole, h)
