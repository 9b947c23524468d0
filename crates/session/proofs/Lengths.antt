-- The checks of the day count and of the lists' lengths, by what the tests found.
use mathlib.Core.Path.{◌≡◌}
use mathlib.Core.Bool.{cond, ◌||◌}
use Prim.Native.Nat.{ℕ, ◌-◌, ◌≤◌, ◌<◌}
use lib.Dec.{eqb, ltb}
use borrow.Author.Tests.{eq-eqb, ne_eqb, lt-ltb, le-ltb}
use Rattle.session.specs.Stages.{length_refusal}

-- 1, or what comes after
module _ (days rest : ℕ) where
  pub no_days : days ≡ 0 → 1 ≡ cond (eqb days 0 || ltb 512 days) 1 rest
  no_days h = rw (eq-eqb days 0 h)

  module _ (some : days ≡ 0 → ⊥) where
    pub many_days : 512 < days → 1 ≡ cond (eqb days 0 || ltb 512 days) 1 rest
    many_days h = rw (ne_eqb days 0 some, lt-ltb 512 days h)

    pub days-taken : days ≤ 512 → rest ≡ cond (eqb days 0 || ltb 512 days) 1 rest
    days-taken h = rw (ne_eqb days 0 some, le-ltb 512 days h)

-- 1 has passed
pub record Counted (days : ℕ) : Type 0 where
  pub some : (days ≡ 0 → ⊥)
  pub few : days ≤ 512

-- 2, or 0
module _ (days floors ceilings rises : ℕ) (d : Counted days) where
  pub floors_wrong : (floors ≡ days → ⊥) → 2 ≡ length_refusal days floors ceilings rises
  floors_wrong h = rw (← days-taken days _ d.some d.few, ne_eqb floors days h)

  module _ (f : floors ≡ days) where
    pub ceilings_wrong : (ceilings ≡ days → ⊥) → 2 ≡ length_refusal days floors ceilings rises
    ceilings_wrong h = rw (← days-taken days _ d.some d.few, eq-eqb floors days f, ne_eqb ceilings days h)

    module _ (c : ceilings ≡ days) where
      pub rises_wrong : (rises ≡ days - 1 → ⊥) → 2 ≡ length_refusal days floors ceilings rises
      rises_wrong h = rw (← days-taken days _ d.some d.few, eq-eqb floors days f, eq-eqb ceilings days c, ne_eqb rises (days - 1) h)

      pub lengths_right : rises ≡ days - 1 → 0 ≡ length_refusal days floors ceilings rises
      lengths_right h = rw (← days-taken days _ d.some d.few, eq-eqb floors days f, eq-eqb ceilings days c, eq-eqb rises (days - 1) h)
