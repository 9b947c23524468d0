-- A schedule's levels in an array: a day's floor and ceiling set to a level, the floors carried and raised, and that what stands there is small.
use mathlib.Core.Path.{◌≡◌, refl, ap, sym, ◌∙◌}
use mathlib.Core.List.{List}
use Prim.Native.Nat.{ℕ, ◌≤◌, ◌<◌}
use native.Mathlib.Omega.{arith}
use native.Mathlib.Decide.{dec_lt}
use lib.ListN.{length, set}
use lib.Seq.{get_or-set_other}
use Rattle.theory_lists.specs.Sum.{at}
use Rattle.theory_lists.specs.Written.{written, length-written, written_below, written-past, written_over}
use Rattle.theory_method.specs.Filter.{box, InBounds, carried, first_crossed, forwarded}
use Rattle.theory_method.proofs.Levels.{refit, refit-day}
use Rattle.theory_method.proofs.Stages.{crossing}
use Rattle.schedule_raising.specs.Raising.{raised_to}
use Rattle.schedule_raising.proofs.Laws.{raised_stands, raised-small}
use Rattle.schedule_writing.specs.Writing.{levels_through}

-- a schedule's levels x stand on the first n places of an array
pub record Standing (x : ℕ → ℕ) (n : ℕ) (out : List ℕ) : Type 0 where
  pub here : (k : ℕ) → k < n → at out k ≡ x k
  pub small : (k : ℕ) → k < n → at out k ≤ 5000

-- the day's floor and ceiling are set to the level, and the floors are carried, up to day r
pub record LevelCarried (fs cs rs : List ℕ) (n first lowest day level r : ℕ) (hs : List ℕ) : Type 0 where
  pub bounds : InBounds (box fs cs rs n first 0 lowest)
  pub known : day < n
  pub small : level ≤ 5000
  pub stop : r ≡ first_crossed (carried (set fs day level) rs) (at (set cs day level)) n
  pub forward : hs ≡ written (carried (set fs day level) rs) r (set fs day level)

module _ {fs cs rs : List ℕ} {n first lowest day level r : ℕ} {hs : List ℕ} (d : LevelCarried fs cs rs n first lowest day level r hs) where
  abbrev gs : List ℕ
  gs = set fs day level

  abbrev ds : List ℕ
  ds = set cs day level

  b : InBounds (box gs ds rs n first 0 lowest)
  b = refit-day d.bounds day level d.known d.small

  few : r ≤ n
  few = omega (arith, d.stop, (crossing (carried gs rs) (at ds) n).most)

  whole : length hs ≡ 512
  whole = ap length d.forward ∙ length-written (carried gs rs) r gs ∙ b.floors

  -- floors carried up to the first crossing are at most 5,000: below it they are at most their ceilings
  carried-small : (k : ℕ) → k < n → at hs k ≤ 5000
  carried-small k h = rw d.forward (go (dec_lt k r))
    where
      go : Dec (k < r) → at (written (carried gs rs) r gs) k ≤ 5000
      go (yes l) =
          omega (
            arith,
            written_below (carried gs rs) 0 r gs k l (omega (arith, few, b.floors, b.most)),
            (crossing (carried gs rs) (at ds) n).before k (omega (arith, d.stop)),
            b.ceiling k h,
          )
      go (no l) = omega (arith, written-past (carried gs rs) 0 r gs k (omega arith), b.floor k h)

  pub through-bounds : InBounds (box hs ds rs n first 0 lowest)
  through-bounds = refit b whole b.ceilings carried-small b.ceiling (omega arith) b.highest

  -- past the last day nothing is set or carried
  carried-past : (k : ℕ) → n ≤ k → at hs k ≡ at fs k
  carried-past k h =
      ap (λ l. at l k) d.forward ∙ written-past (carried gs rs) 0 r gs k (omega (arith, few))
      ∙ get_or-set_other fs day k level 0 (omega (arith, d.known))

  -- so what is raised is the schedule
  pub through-raised : {out : List ℕ} → out ≡ written (raised_to hs ds rs n first lowest) n hs → out ≡ written (levels_through fs cs rs n first lowest day level) n fs
  through-raised e =
      let same : raised_to hs ds rs n first lowest ≡ levels_through fs cs rs n first lowest day level = rw (d.forward, d.stop) in
      let u = d.bounds in
      e ∙ ap (λ f. written f n hs) same ∙ written_over (levels_through fs cs rs n first lowest day level) 0 n fs hs (omega (arith, u.floors, u.most)) (whole ∙ sym u.floors) carried-past

-- ---- the levels in an array

module _ {fs cs rs : List ℕ} {n first t : ℕ} (b : InBounds (box fs cs rs n first 0 t)) {out : List ℕ} where
  pub raised_standing : out ≡ written (raised_to fs cs rs n first t) n fs → Standing (raised_to fs cs rs n first t) n out
  raised_standing e = record { here = raised_stands b t e; small = raised-small b t e }

  pub through_standing : {day level : ℕ} → day < n → level ≤ 5000 → out ≡ written (levels_through fs cs rs n first t day level) n fs → Standing (levels_through fs cs rs n first t day level) n out
  through_standing {day} {level} known small e =
      let r : ℕ = first_crossed (carried (set fs day level) rs) (at (set cs day level)) n in
      let d : LevelCarried fs cs rs n first t day level r (forwarded (set fs day level) rs r) = record { bounds = b; known = known; small = small; stop = refl; forward = refl } in
      record { here = here; small = λ k h. omega (arith, here k h, raised-small (through-bounds d) t refl k h, raised_stands (through-bounds d) t refl k h) }
    where
      here : (k : ℕ) → k < n → at out k ≡ levels_through fs cs rs n first t day level k
      here k h = ap (λ l. at l k) e ∙ written_below (levels_through fs cs rs n first t day level) 0 n fs k h (omega (arith, b.floors, b.most))
