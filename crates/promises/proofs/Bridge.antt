-- A profile's schedules, and schedules in codes.
use mathlib.Core.Path.{◌≡◌}
use mathlib.Core.Logic.{◌↔◌}
use mathlib.Core.List.{List}
use Prim.Native.Nat.{ℕ, ◌+◌, ◌-◌, ◌*◌, ◌≤◌, ◌<◌}
use native.Mathlib.Omega.{arith}
use lib.IntN.{ℤ, pos, ◌+ℤ◌}
use lib.ListN.{length}
use lib.Signed.{◌≤ℤ◌}
use Rattle.limits.specs.Limits.{lowest_point, lowest_rise, lowest_total}
use Rattle.theory_lists.specs.ListOf.{list_of, length-list_of, get_list_of}
use Rattle.theory_lists.specs.Sum.{at}
use Rattle.theory_chains.specs.Sum.{sum}
use Rattle.theory_method.specs.Counted.{counted}
use Rattle.base_codes.specs.Code.{code, decoded, on}
use Rattle.base_codes.proofs.Offset.{Less, less_le, le_less, less_order, less_shift, less_same, less_add}
use Rattle.base_codes.proofs.Laws.{point_less, total_less, code_less, decoded_less}
use Rattle.theory_chains.specs.Spans as Codes
use Rattle.theory_method.specs.Filter.{box, spare, held}
use Rattle.theory_method.specs.Levels.{Levels}
use Rattle.session.specs.Profile.{Profile, Schedule, Spans, total}
use Rattle.session.specs.Opening.{box_in, codes}
use Rattle.session.specs.declared.Session.{Session}
use Rattle.promises.specs.Demands.{Exact}
use Rattle.session.proofs.Lists as Lists
use Rattle.base_codes.proofs.Order.{≤ℤ_trans}
use Rattle.session.proofs.Entered.{Entered, floor_less, ceiling_less, rise_less_at, lowest_less, highest_less}

-- a total of n days, as it is held
pub held_less : (x : List ℤ) (n first : ℕ) (c : ℕ → ℕ) → length x ≡ n → n ≤ 512 → ((i : ℕ) → i < n → Less (on x i) (c i) 1000)
    → Less (total first x) (held n first c) 512000
unfolding spare
held_less x n first c e few h =
    let rest : ℕ = 1000 * (512 - (n - first)) in
    let wide : Less (total first x) (sum (counted first n) n c + rest) ((n - first) * 1000 + rest) =
    less_shift (total first x) (sum (counted first n) n c) ((n - first) * 1000) rest (Lists.total_less first n x c 1000 e h) in
    let all-days : (n - first) * 1000 + rest ≡ 512000 = omega arith in
    rw all-days at wide

-- lists of codes stand for a profile's points and rises, and numbers for its total's bounds
pub record Coding (p : Profile) (fs cs rs : List ℕ) (L U : ℕ) : Type 0 where
  pub few : p.days ≤ 512
  pub floor : (k : ℕ) → k < p.days → Less (on p.floors k) (at fs k) 1000
  pub ceiling : (k : ℕ) → k < p.days → Less (on p.ceilings k) (at cs k) 1000
  pub rise : (k : ℕ) → k + 1 < p.days → Less (on p.rises k) (at rs k) 2000
  pub lowest : Less p.lowest L 512000
  pub highest : Less p.highest U 512000

-- a list of points and the levels that stand for them are schedules together
module _ {p : Profile} {fs cs rs : List ℕ} {L U : ℕ} (g : Coding p fs cs rs L U)
    (x : List ℤ) (whole : length x ≡ p.days) (c : ℕ → ℕ) (same : (i : ℕ) → i < p.days → Less (on x i) (c i) 1000) where
  sum_less : Less (total p.first x) (held p.days p.first c) 512000
  sum_less = held_less x p.days p.first c whole g.few same

  floor-same : (k : ℕ) → k < p.days → (on p.floors k ≤ℤ on x k) ↔ (at fs k ≤ c k)
  floor-same k h = less_order (on p.floors k) (on x k) (at fs k) (c k) 1000 (g.floor k h) (same k h)

  ceiling-same : (k : ℕ) → k < p.days → (on x k ≤ℤ on p.ceilings k) ↔ (c k ≤ at cs k)
  ceiling-same k h = less_order (on x k) (on p.ceilings k) (c k) (at cs k) 1000 (same k h) (g.ceiling k h)

  rise-same : (k : ℕ) → k + 1 < p.days → ((on x k +ℤ on p.rises k) ≤ℤ on x (k + 1)) ↔ (c k + at rs k ≤ c (k + 1) + 2000)
  rise-same k h =
      less_order (on x k +ℤ on p.rises k) (on x (k + 1)) (c k + at rs k) (c (k + 1) + 2000) 3000
      (less_add (on x k) (on p.rises k) (c k) (at rs k) 1000 2000 (same k (omega arith)) (g.rise k h))
      (less_shift (on x (k + 1)) (c (k + 1)) 1000 2000 (same (k + 1) h))

  least-same : (p.lowest ≤ℤ total p.first x) ↔ (L ≤ held p.days p.first c)
  least-same = less_order p.lowest (total p.first x) L (held p.days p.first c) 512000 g.lowest sum_less

  most-same : (total p.first x ≤ℤ p.highest) ↔ (held p.days p.first c ≤ U)
  most-same = less_order (total p.first x) p.highest (held p.days p.first c) U 512000 sum_less g.highest

  pub to_levels : Schedule p x → Levels (box fs cs rs p.days p.first L U) c
  to_levels s = record {
    floor = λ k h. (floor-same k h).0 (s.floor k h);
    ceiling = λ k h. (ceiling-same k h).0 (s.ceiling k h);
    rise = λ k h. (rise-same k h).0 (s.rise k h);
    least = least-same.0 s.least;
    most = most-same.0 s.most;
  }

  pub of_levels : Levels (box fs cs rs p.days p.first L U) c → Schedule p x
  of_levels s = record {
    whole = whole;
    floor = λ k h. (floor-same k h).1 (s.floor k h);
    ceiling = λ k h. (ceiling-same k h).1 (s.ceiling k h);
    rise = λ k h. (rise-same k h).1 (s.rise k h);
    least = least-same.1 s.least;
    most = most-same.1 s.most;
  }

-- the levels of a schedule stand for it
pub levels_of : {p : Profile} {fs cs rs : List ℕ} {L U : ℕ} → Coding p fs cs rs L U → (x : List ℤ) → Schedule p x
    → (i : ℕ) → i < p.days → Less (on x i) (code lowest_point (on x i)) 1000
levels_of {p} {fs} g x s i h =
    code_less lowest_point (on x i) 1000 point_less
    (≤ℤ_trans lowest_point (on p.floors i) (on x i) (less_le lowest_point (on p.floors i) 0 (at fs i) 1000 point_less (g.floor i h) (omega arith)) (s.floor i h))

pub codes_of : {p : Profile} {fs cs rs : List ℕ} {L U : ℕ} → Coding p fs cs rs L U → (x : List ℤ) → Schedule p x
    → Levels (box fs cs rs p.days p.first L U) (λ k. code lowest_point (on x k))
codes_of g x s = to_levels g x s.whole (λ k. code lowest_point (on x k)) (levels_of g x s) s

module _ (p : Profile) (d : Entered p) where
  abbrev pub CodesOf : (ℕ → ℕ) → Type 0
  CodesOf = Levels (box_in p)

  pub coding : Coding p (codes lowest_point p.floors p.days) (codes lowest_point p.ceilings p.days)
      (codes lowest_rise p.rises (p.days - 1)) (code lowest_total p.lowest) (code lowest_total p.highest)
  coding = record {
    few = d.sized.few;
    floor = floor_less p d;
    ceiling = ceiling_less p d;
    rise = rise_less_at p d;
    lowest = lowest_less p d;
    highest = highest_less p d;
  }

  -- the points of levels
  abbrev pub points_of : (ℕ → ℕ) → List ℤ
  points_of c = list_of (λ k. decoded lowest_point (c k)) p.days

  pub points_length : (c : ℕ → ℕ) → length (points_of c) ≡ p.days
  points_length c = length-list_of (λ k. decoded lowest_point (c k)) p.days

  pub points_less : (c : ℕ → ℕ) (i : ℕ) → i < p.days → Less (on (points_of c) i) (c i) 1000
  points_less c i h =
      rw (get_list_of (λ k. decoded lowest_point (c k)) (pos 0) p.days i h) (decoded_less lowest_point (c i) 1000 point_less)

  pub schedule_of : (c : ℕ → ℕ) → CodesOf c → Schedule p (points_of c)
  schedule_of c h = of_levels coding (points_of c) (points_length c) c (points_less c) h

-- ---- exact ranges in codes, as points

-- the code of a value from one decoded number to another is between them
pub between : (low v : ℤ) (k m n : ℕ) → Less low 0 k → decoded low m ≤ℤ v → v ≤ℤ decoded low n → Less v (code low v) k × (m ≤ code low v) × (code low v ≤ n)
between low v k m n p lo hi =
    let bottom : low ≤ℤ decoded low m = less_le low (decoded low m) 0 m k p (decoded_less low m k p) (omega arith) in
    let c : Less v (code low v) k = code_less low v k p (≤ℤ_trans low (decoded low m) v bottom lo) in
    (c, le_less (decoded low m) v m (code low v) k (decoded_less low m k p) c lo, le_less v (decoded low n) (code low v) n k c (decoded_less low n k p) hi)

-- a set of schedules, and the same set in codes
pub record InCodes (p : Profile) (d : Entered p) (S : List ℤ → Type 0) (T : (ℕ → ℕ) → Type 0) : Type 0 where
  pub schedule : (x : List ℤ) → S x → Schedule p x
  pub to : (x : List ℤ) → S x → T (λ k. code lowest_point (on x k))
  pub of : (c : ℕ → ℕ) → T c → S (points_of p d c)

module _ (p : Profile) (d : Entered p) (S : List ℤ → Type 0) (T : (ℕ → ℕ) → Type 0) (m : InCodes p d S T) where
  -- a range of codes that spans the set in codes, decoded, spans the set: for a day's setpoint and for the total alike
  module _ (low : ℤ) (k : ℕ) (offset : Less low 0 k) (f : List ℤ → ℤ) (g : (ℕ → ℕ) → ℕ)
      (same : (x : List ℤ) (c : ℕ → ℕ) → length x ≡ p.days → ((i : ℕ) → i < p.days → Less (on x i) (c i) 1000) → Less (f x) (g c) k)
      (lo hi : ℕ) (s : Codes.NatSpans T g lo hi) where
    bottom : Less (decoded low lo) lo k
    bottom = decoded_less low lo k offset

    top : Less (decoded low hi) hi k
    top = decoded_less low hi k offset

    at_value : (v : ℤ) → decoded low lo ≤ℤ v → v ≤ℤ decoded low hi → (x : List ℤ) × S x × (f x ≡ v)
    at_value v l u =
        let b = between low v k lo hi offset l u in
        let t = s.taken (code low v) b.1 b.2 in
        let here : Less (f (points_of p d t.0)) (code low v) k = rw t.2 at (same (points_of p d t.0) t.0 (points_length p d t.0) (points_less p d t.0)) in
        (points_of p d t.0, m.of t.0 t.1, less_same (f (points_of p d t.0)) v (code low v) k here b.0)

    spans : Spans S f (decoded low lo) (decoded low hi)
    spans = record {
      some = less_le (decoded low lo) (decoded low hi) lo hi k bottom top s.some;
      inside = λ x h.
          let c : ℕ → ℕ = λ i. code lowest_point (on x i) in
          let here : Less (f x) (g c) k = same x c (m.schedule x h).whole (levels_of (coding p d) x (m.schedule x h)) in
          let w = s.inside c (m.to x h) in
          (less_le (decoded low lo) (f x) lo (g c) k bottom here w.0, less_le (f x) (decoded low hi) (g c) hi k here top w.1);
      taken = at_value;
    }

  pub exact_points : (s : Session) → ((i : ℕ) → i < p.days → Codes.NatSpans T (λ c. c i) (at s.present.floors i) (at s.present.ceilings i))
      → Codes.NatSpans T (held p.days p.first) s.present.lowest s.present.highest → Exact p S s
  exact_points s day sum = record {
    each = λ i h. spans lowest_point 1000 point_less (λ x. on x i) (λ c. c i) (λ x c w same. same i h) _ _ (day i h);
    sum = spans lowest_total 512000 total_less (total p.first) (held p.days p.first) (λ x c w same. held_less x p.days p.first c w d.sized.few same) _ _ sum;
  }
