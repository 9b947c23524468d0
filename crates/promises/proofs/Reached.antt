-- A session that came from a profile by cuts: the schedules of its present ranges are those of the profile that keep every valid cut.
use mathlib.Core.Path.{◌≡◌, refl, sym, ◌∙◌, ap}
use mathlib.Core.Bool.{false, true≢false}
use mathlib.Core.List.{List}
use Prim.Native.Nat.{ℕ, ◌-◌, ◌≤◌}
use native.Mathlib.Omega.{arith}
use lib.IntN.{ℤ, pos}
use Rattle.limits.specs.Limits.{lowest_point, lowest_rise, lowest_total}
use Rattle.theory_lists.specs.ListOf.{get_list_of}
use Rattle.theory_lists.specs.Sum.{at}
use Rattle.theory_chains.specs.Spans.{spans_same}
use Rattle.base_codes.specs.Code.{code, on}
use Rattle.base_codes.proofs.Laws.{point_less, rise_less, total_less, decoded_less}
use Rattle.session.specs.Profile.{Profile, Schedule}
use Rattle.session.specs.Opening.{opened, narrowed as tight, codes, ranges_of}
use Rattle.session.proofs.Entered.{Entered, entered}
use Rattle.session.specs.Showing.{floor_on, ceiling_on, rise_on}
use Rattle.session.proofs.Within.{Within}
use Rattle.session.specs.declared.Session.{Session}
use Rattle.schedule_writing.proofs.Supported.{Supported}
use Rattle.promises.specs.Cuts.{CutCall, Kept, after}
use Rattle.promises.proofs.Bridge.{Coding, of_levels, levels_of, codes_of, coding}
use Rattle.promises.proofs.Demand2.{unrefused}
use Rattle.promises.proofs.Right.{Right, narrowed, exhausted}
use Rattle.promises.proofs.Demand3.{LevelsKept, kept_levels, levels_kept, after_right}
use Rattle.promises.specs.Schedules.{present_profile, PresentSchedules}

-- a session's numbers stand for the profile of its present ranges
pub present_coding : (s : Session) → s.days ≤ 512 → Coding (present_profile s) s.present.floors s.present.ceilings s.rises s.present.lowest s.present.highest
present_coding s few = record {
  few = few;
  floor = λ k h. rw (get_list_of (floor_on s) (pos 0) s.days k h) (decoded_less lowest_point (at s.present.floors k) 1000 point_less);
  ceiling = λ k h. rw (get_list_of (ceiling_on s) (pos 0) s.days k h) (decoded_less lowest_point (at s.present.ceilings k) 1000 point_less);
  rise = λ k h. rw (get_list_of (rise_on s) (pos 0) (s.days - 1) k (omega arith)) (decoded_less lowest_rise (at s.rises k) 2000 rise_less);
  lowest = decoded_less lowest_total s.present.lowest 512000 total_less;
  highest = decoded_less lowest_total s.present.highest 512000 total_less;
}

-- an unspent session that came from a profile by cuts: the levels within its present ranges are those of the profile that keep the cuts, and
-- each value of a range is taken
pub record Reached (p : Profile) (d : Entered p) (hs : List CutCall) (s : Session) : Type 0 where
  pub days : s.days ≡ p.days
  pub first : s.first ≡ p.first
  pub supported : Supported s.rises s.days s.first s.present
  pub within : (c : ℕ → ℕ) → LevelsKept p d hs c → Within s.rises s.days s.first s.present c
  pub only : (c : ℕ → ℕ) → Within s.rises s.days s.first s.present c → LevelsKept p d hs c

reached : (p : Profile) (d : Entered p) (hs : List CutCall) {s : Session} → Right p.days p.first (codes lowest_rise p.rises (p.days - 1)) (ranges_of (tight p)) (LevelsKept p d hs) s
    → s.spent ≡ false → Reached p d hs s
reached p d hs (narrowed r e w) u =
    rw e (record {
      days = refl;
      first = refl;
      supported = record { bounds = w.bounds; day = λ k h. spans_same w.only w.within (w.day k h); total = spans_same w.only w.within w.total };
      within = w.within;
      only = w.only;
    })
reached p d hs (exhausted e h) u = absurd (true≢false (sym (ap (λ (s : Session). s.spent) e) ∙ u))

pub after_reached : (p : Profile) (z : (opened p).refusal ≡ 0) (d : Entered p) (hs : List CutCall) (s : Session) → s ≡ after (opened p).session hs → s.spent ≡ false → Reached p d hs s
after_reached p z d hs s e = let u = unrefused p z in reached p d hs (rw (e, u.session) (after_right p d u.found hs))

module _ (p : Profile) (d : Entered p) (hs : List CutCall) (s : Session) (w : Reached p d hs s) where
  present : Coding (present_profile s) s.present.floors s.present.ceilings s.rises s.present.lowest s.present.highest
  present = present_coding s w.supported.bounds.most

  pub present-kept : (x : List ℤ) → Schedule (present_profile s) x → Kept p hs x
  present-kept x k =
      levels_kept p d hs x (k.whole ∙ w.days) (λ i. code lowest_point (on x i)) (λ i h. levels_of present x k i (rw w.days h)) (w.only _ (codes_of present x k))

  kept-present : (x : List ℤ) → Kept p hs x → Schedule (present_profile s) x
  kept-present x k =
      of_levels present x (k.schedule.whole ∙ sym w.days) (λ i. code lowest_point (on x i)) (λ i h. levels_of (coding p d) x k.schedule i (rw (sym w.days) h))
      (w.within _ (kept_levels p d hs x k))

pub present_schedules : PresentSchedules
present_schedules p z hs s e u x =
    let d = entered p (unrefused p z).early in
    let w = after_reached p z d hs s e u in
    (present-kept p d hs s w x, kept-present p d hs s w x)
