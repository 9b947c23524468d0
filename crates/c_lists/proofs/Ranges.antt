-- The loop of `code_ranges` over plain lists: the floors and the ceilings of days coded in turn (`Coding` of each), and the two compared (`Told`).
use Prim.Native.Nat.{ℕ, ◌+◌, ◌≤◌, ◌<◌}
use mathlib.Core.Path.{◌≡◌, refl, ap, ◌∙◌}
use mathlib.Core.Bool.{Bool, true, false, not, ◌||◌}
use mathlib.Core.List.{List}
use lib.Dec.{ltb}
use lib.IntN.{ℤ, pos}
use lib.ListN.{set}
use mir.Syntax.{w16}
use mir.Val.{SFits, to_z, of_z}
use mir.Facts.{to_z-of_z}
use Rattle.limits.specs.Limits.{lowest_point, highest_point}
use Rattle.theory_lists.specs.ListOf.{length-list_of, get_list_of}
use Rattle.theory_lists.specs.Some.{Told, told_none, told_more, told_all}
use Rattle.theory_lists.specs.Written.{written}
use Rattle.std.specs.Prelude.{Option, is_some, unwrap_or}
use Rattle.base_codes.specs.Code.{within, every, coded, code_or_zero}
use Rattle.base_codes.proofs.Loops.{some-or-zero, Coding, coding_none, coding_more, coding_all}
use Rattle.c_lists.specs.Lists.{point_at, points_in, level_at, levels_crossed}

-- the floors and the ceilings of the first i of n days are coded, and what the flags tell of them
pub record CodingRanges (fs cs : List ℕ) (n : ℕ) (low₀ high₀ : List ℕ) (i : ℕ) (low high : List ℕ) (outside crossed : Bool) : Type 0 where
  pub bad_floor : Bool
  pub bad_ceiling : Bool
  pub floors : Coding lowest_point highest_point (point_at fs) n low₀ i low bad_floor
  pub ceilings : Coding lowest_point highest_point (point_at cs) n high₀ i high bad_ceiling
  pub either : outside ≡ (bad_floor || bad_ceiling)
  pub less : Told (λ k. ltb (level_at cs k) (level_at fs k)) n i crossed

-- a turn read the point z as y, and coded what it reads back from its bits: v, 0 for one outside its bounds, and b, whether it is
pub record Cell (z y : ℤ) (r : Option ℕ) (v : ℕ) (b : Bool) : Type 0 where
  pub fits : SFits w16 y
  pub point : y ≡ z
  pub answer : r ≡ coded lowest_point highest_point (to_z w16 (of_z w16 y))
  pub value : v ≡ unwrap_or r 0
  pub told : is_some r ≡ not b

cell_code : {z y : ℤ} {r : Option ℕ} {v : ℕ} {b : Bool} → Cell z y r v b → v ≡ code_or_zero lowest_point highest_point z
cell_code {z} h =
    h.value ∙ ap (λ x. unwrap_or x 0) (h.answer ∙ ap (coded lowest_point highest_point) (to_z-of_z h.fits ∙ h.point)) ∙ some-or-zero lowest_point highest_point z

or_pairs : (a b x y : Bool) → ((a || b) || (x || y)) ≡ ((a || x) || (b || y))
or_pairs true b x y = refl
or_pairs false true true y = refl
or_pairs false true false y = refl
or_pairs false false x y = refl

-- what holds once all are coded
abbrev BothCoded : List ℕ → List ℕ → ℕ → List ℕ → List ℕ → List ℕ → List ℕ → Bool → Bool → Type 0
BothCoded fs cs n low₀ high₀ low high outside crossed =
    (outside ≡ (not (every (within lowest_point highest_point) (points_in fs n)) || not (every (within lowest_point highest_point) (points_in cs n))))
    × ((crossed ≡ levels_crossed fs cs n) × ((low ≡ written (level_at fs) n low₀) × (high ≡ written (level_at cs) n high₀)))

module _ {fs cs : List ℕ} {n : ℕ} {low₀ high₀ : List ℕ} where
  pub ranges-none : CodingRanges fs cs n low₀ high₀ 0 low₀ high₀ false false
  ranges-none = record { bad_floor = false; bad_ceiling = false; floors = coding_none; ceilings = coding_none; either = refl; less = told_none }

  module _ {i : ℕ} {low high : List ℕ} {outside crossed : Bool} (h : CodingRanges fs cs n low₀ high₀ i low high outside crossed) where
    pub ranges_more : {x y : ℤ} {r s : Option ℕ} {v w : ℕ} {a b : Bool} → i < n → Cell (point_at fs i) x r v a → Cell (point_at cs i) y s w b
        → CodingRanges fs cs n low₀ high₀ (i + 1) (set low i v) (set high i w) (outside || (a || b)) (crossed || ltb w v)
    ranges_more {a = a} {b = b} l p q =
        record {
          bad_floor = h.bad_floor || a;
          bad_ceiling = h.bad_ceiling || b;
          floors = coding_more h.floors a l p.fits p.point p.answer p.value p.told;
          ceilings = coding_more h.ceilings b l q.fits q.point q.answer q.value q.told;
          either = ap (λ x. x || (a || b)) h.either ∙ or_pairs h.bad_floor h.bad_ceiling a b;
          less = told_more h.less l (cc (cell_code p, cell_code q));
        }

    pub ranges-all : n ≤ i → BothCoded fs cs n low₀ high₀ low high outside crossed
    unfolding points_in levels_crossed
    ranges-all l =
        let floors = coding_all h.floors (points_in fs n) (length-list_of (point_at fs) n) (get_list_of (point_at fs) (pos 0) n) l in
        let ceilings = coding_all h.ceilings (points_in cs n) (length-list_of (point_at cs) n) (get_list_of (point_at cs) (pos 0) n) l in
        (cc (h.either, floors.0, ceilings.0), (told_all h.less l, (floors.1.0, ceilings.1.0)))
