-- Demand 3 holds: one theorem about whole lists of cuts.
use mathlib.Core.Path.{◌≡◌, refl, sym, ◌∙◌, ap}
use mathlib.Core.Bool.{true, false, true≢false}
use mathlib.Core.Logic.{◌↔◌}
use mathlib.Core.List.{List}
use Prim.Native.Nat.{ℕ, ◌-◌, ◌<◌}
use lib.IntN.{ℤ}
use lib.ListN.{length}
use Rattle.limits.specs.Limits.{lowest_point, lowest_rise, lowest_total}
use Rattle.base_codes.specs.Code.{code, on}
use Rattle.base_codes.proofs.Offset.{Less, less_order}
use Rattle.base_codes.proofs.Laws.{point_less, total_less, code_less}
use Rattle.theory_method.specs.Filter.{held}
use Rattle.theory_method.proofs.Exact.{exact, tighter, looser, exact_in_bounds}
use Rattle.session.specs.Profile.{Profile, total}
use Rattle.session.specs.Opening.{narrowed as tight, codes, fresh, ranges_of}
use Rattle.session.proofs.Entered.{Entered, entered, codes-bounds}
use Rattle.session.specs.declared.Ranges.{Ranges}
use Rattle.session.specs.declared.Session.{Session}
use Rattle.session_cuts.specs.declared.Cut.{Cut}
use Rattle.session_cuts.specs.declared.Cut.TheVariants.{DayFloor, DayCeiling, TotalFloor, TotalCeiling}
use Rattle.session_cutting.specs.Cutting.{spend}
use Rattle.promises.specs.Cuts.{WellFormed, Keeps, CutCall, ValidIn, Kept, after}
use Rattle.promises.specs.Demands.{Exact, Demand3}
use Rattle.promises.proofs.Bridge.{held_less, CodesOf, levels_of, points_of, points_length, points_less, codes_of, coding, of_levels, exact_points}
use Rattle.promises.proofs.Demand2.{unrefused}
use Rattle.promises.proofs.Clip.{KeepsLevels}
use Rattle.promises.proofs.Right.{Right, narrowed, exhausted, right_same, some, right_one}
use Rattle.promises.proofs.Fold.{KeepingAll, fold}

module _ (p : Profile) (d : Entered p) where
  -- a list of points and the levels that stand for them keep a well-formed cut together
  module _ (x : List ℤ) (whole : length x ≡ p.days) (y : ℕ → ℕ) (same : (i : ℕ) → i < p.days → Less (on x i) (y i) 1000) where
    sum_less : Less (total p.first x) (held p.days p.first y) 512000
    sum_less = held_less x p.days p.first y whole d.sized.few same

    keeps_same : (c : Cut) → WellFormed p c → Keeps p c x ↔ KeepsLevels p.days p.first c y
    keeps_same (DayFloor i v) w = less_order v (on x i) _ (y i) 1000 (code_less lowest_point v 1000 point_less w.1) (same i w.0)
    keeps_same (DayCeiling i v) w = less_order (on x i) v (y i) _ 1000 (same i w.0) (code_less lowest_point v 1000 point_less w.1)
    keeps_same (TotalFloor i v) w = less_order v (total p.first x) _ (held p.days p.first y) 512000 (code_less lowest_total v 512000 total_less w.1) sum_less
    keeps_same (TotalCeiling i v) w = less_order (total p.first x) v (held p.days p.first y) _ 512000 sum_less (code_less lowest_total v 512000 total_less w.1)

  abbrev rs : List ℕ
  rs = codes lowest_rise p.rises (p.days - 1)

  abbrev o : Ranges
  o = ranges_of (tight p)

  -- the levels that keep every valid cut of the list
  abbrev pub LevelsKept : List CutCall → (ℕ → ℕ) → Type 0
  LevelsKept hs = KeepingAll p rs o (CodesOf p d) hs

  pub kept_levels : (hs : List CutCall) (x : List ℤ) → Kept p hs x → LevelsKept hs (λ k. code lowest_point (on x k))
  kept_levels hs x k =
      (codes_of (coding p d) x k.schedule, λ c v. (keeps_same x k.schedule.whole _ (levels_of (coding p d) x k.schedule) c v.valid.formed).0 (k.keeps c v))

  pub levels_kept : (hs : List CutCall) (x : List ℤ) → length x ≡ p.days → (y : ℕ → ℕ) → ((i : ℕ) → i < p.days → Less (on x i) (y i) 1000) → LevelsKept hs y → Kept p hs x
  levels_kept hs x whole y same k = record {
    schedule = of_levels (coding p d) x whole y same k.0;
    keeps = λ c v. (keeps_same x whole y same c v.valid.formed).1 (k.1 c v);
  }

  kept_points : (hs : List CutCall) (y : ℕ → ℕ) → LevelsKept hs y → Kept p hs (points_of p d y)
  kept_points hs y = levels_kept hs (points_of p d y) (points_length p d y) y (points_less p d y)

  -- levels keep a list where every schedule that keeps one keeps the other
  also : (hs gs : List CutCall) → ((x : List ℤ) → Kept p hs x → Kept p gs x) → (y : ℕ → ℕ) → LevelsKept hs y → LevelsKept gs y
  also hs gs keep y k =
      (k.0, λ c v. (keeps_same (points_of p d y) (points_length p d y) y (points_less p d y) c v.valid.formed).0 ((keep (points_of p d y) (kept_points hs y k)).keeps c v))

  -- what a session that is right for the levels says of the schedules
  spent-exactly : (hs : List CutCall) {s : Session} → Right p.days p.first rs o (LevelsKept hs) s → (s.spent ≡ true) ↔ ((x : List ℤ) → Kept p hs x → ⊥)
  spent-exactly hs (narrowed r e w) =
      let z = some w in
      (λ t. absurd (true≢false (sym t ∙ ap (λ (s : Session). s.spent) e)), λ h. absurd (h (points_of p d z.0) (kept_points hs z.0 z.1)))
  spent-exactly hs (exhausted e h) = (λ t x k. h _ (kept_levels hs x k), λ _. ap (λ (s : Session). s.spent) e)

  opened-again : (hs : List CutCall) {s : Session} → Right p.days p.first rs o (LevelsKept hs) s → s.spent ≡ true → s ≡ spend (fresh p.days p.first rs o)
  opened-again hs (narrowed r e w) u = absurd (true≢false (sym u ∙ ap (λ (s : Session). s.spent) e))
  opened-again hs (exhausted e h) u = e

  exactly : (hs : List CutCall) {s : Session} → Right p.days p.first rs o (LevelsKept hs) s → s.spent ≡ false → Exact p (Kept p hs) s
  exactly hs (narrowed r e w) u = rw e (exact_points p d (Kept p hs) (LevelsKept hs) (record { schedule = λ x k. k.schedule; to = kept_levels hs; of = kept_points hs }) _ w.day w.total)
  exactly hs (exhausted e h) u = absurd (true≢false (sym (ap (λ (s : Session). s.spent) e) ∙ u))

  module _ (found : (tight p).found ≡ true) where
    abbrev start : Session
    start = fresh p.days p.first rs o

    -- a fresh session is right for the profile's schedules
    start_right : Right p.days p.first rs o (CodesOf p d) start
    start_right =
        let z = exact (codes-bounds p d) found in
        narrowed o refl (record {
          bounds = exact_in_bounds z (codes-bounds p d);
          within = tighter z;
          only = looser z;
          day = z.day;
          total = z.total;
          floors-kept = λ k h. refl;
          ceilings-kept = λ k h. refl;
        })

    pub after_right : (hs : List CutCall) → Right p.days p.first rs o (LevelsKept hs) (after start hs)
    after_right hs = fold p rs o (CodesOf p d) start hs start_right

    -- two lists that the same schedules keep end in equal sessions
    pub same-session : (hs gs : List CutCall) → ((x : List ℤ) → Kept p hs x ↔ Kept p gs x) → after start hs ≡ after start gs
    same-session hs gs same = right_one (right_same (also hs gs (λ x. (same x).0)) (also gs hs (λ x. (same x).1)) (after_right hs)) (after_right gs)

    -- so do two lists with the same valid cuts
    same-cuts : (hs gs : List CutCall) → ((c : Cut) → ValidIn p hs c ↔ ValidIn p gs c) → after start hs ≡ after start gs
    same-cuts hs gs same =
        same-session hs gs (λ x. (
          λ k. record { schedule = k.schedule; keeps = λ c v. k.keeps c ((same c).1 v) },
          λ k. record { schedule = k.schedule; keeps = λ c v. k.keeps c ((same c).0 v) },
        ))

pub demand_3 : Demand3
demand_3 p z hs =
    let u = unrefused p z in
    let d = entered p u.early in
    record {
      spent = rw u.session (spent-exactly p d hs (after_right p d u.found hs));
      as_opened = rw u.session (opened-again p d hs (after_right p d u.found hs));
      exact = rw u.session (exactly p d hs (after_right p d u.found hs));
      order-free = λ gs same. rw u.session (same-cuts p d u.found hs gs same);
    }
