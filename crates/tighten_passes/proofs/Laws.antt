-- The passes over plain lists and numbers: what holds at each loop's head, and what starts, keeps and ends it.
use Prim.Native.Nat.{ℕ, zero, suc, ◌+◌, ◌-◌, ◌*◌, ◌/◌, ◌≤◌, ◌<◌, min, max}
use mathlib.Core.Path.{◌≡◌, refl, ap, sym, ◌∙◌}
use mathlib.Core.Bool.{Bool, true, false}
use mathlib.Core.List.{List}
use native.Mathlib.Omega.{arith}
use native.Mathlib.Decide.{dec_lt}
use native.Mathlib.Nat.{le_refl, mul-le-mul_left, div-mul-le_self, le-div_iff_mul-le}
use native.Mathlib.Numerals.{add-one}
use mathlib.Core.Bool.{cond}
use lib.ListN.{set, length, get_or-replicate, length-replicate}
use Rattle.limits.specs.Limits.{most_days, highest_level, rise_offset, highest_rise_code, last_shift, highest_shift, highest_held}
use Rattle.theory_lists.specs.Sum.{sum_for, at, above, sum-none, sum-front, sum-most, sum-last, sum_part, sum_zeros, excess_low, excess_exact}
use Rattle.theory_lists.specs.Written.{written, last_written, written-more, written-past, written_below, written_same, written_own, length-written, last_none, last_more, last-before, last_at, last-front}
use Rattle.theory_chains.specs.Sum.{all}
use Rattle.theory_chains.specs.Fit.{fit, fitted, fitted-one}
use Rattle.theory_method.specs.Shift.{shift, shift_from, shift_start, shift-low, shift-high, shift-step}
use Rattle.theory_method.specs.Counted.{counted, count-all}
use Rattle.theory_method.specs.Filter.{shifted, overload, lowered_from, lowered, lowered_all, mirrored, reversed, zeros, raised}
use Rattle.theory_method.specs.Stages.{Ready, mirrored_all, reversed_all}
use Rattle.theory_method.proofs.Stages.{mirrored_at, reversed_at, mirrored-ready, lowered_at, raised_is}
use Rattle.theory_method.specs.Stages as Stages
use Rattle.theory_method.proofs.Counting.{lowered-counted, lowered-before, lowered-front, lowered-past}
use Rattle.tighten_carry.specs.Back.{back_from, carried_back}
use Rattle.tighten_passes.specs.Round.{over, window, rounded}
use Rattle.tighten_passes.proofs.WindowLaws.{rounded_is, window-under, window-past, window_is}
use Rattle.tighten_passes.specs.View.{viewed_rises, Carried, Sight, FloorsReady}
use Rattle.tighten_passes.specs.Pass.{highest_shifted, highest_room, Span, Open, Sticking, Found, Overloaded, Rounded, Lowest, Entering}

-- ---- shifted floors

-- no later day is below an earlier one
abbrev Rising : (ℕ → ℕ) → ℕ → Type 0
Rising a n = (j k : ℕ) → j ≤ k → k < n → a j ≤ a k

module _ {fs rs : List ℕ} {n : ℕ} (g : Carried fs rs n) where
  shift-next : (k : ℕ) → k < n → shift (at rs) n k + rise_offset ≡ shift (at rs) n (k + 1) + at rs k
  shift-next k h = shift-step (at rs) n g.most g.rise k h

  shift-most : (k : ℕ) → k ≤ n → shift (at rs) n k ≤ highest_shift
  shift-most k h = omega (arith, g.most, shift-high (at rs) n g.most g.rise (n - k) (omega arith))

  -- before day 0 a step down is left
  shift-least : (k : ℕ) → 0 < k → k ≤ n → rise_offset ≤ shift (at rs) n k
  shift-least k h u = omega (arith, shift-low (at rs) n g.most g.rise (n - k) (omega arith), g.most)

  shifted-most : (k : ℕ) → k < n → shifted fs rs n k ≤ highest_shifted
  shifted-most k h = omega (arith, shift-most k (omega arith), g.floor k h)

  -- the floors rise
  climbs : (j d : ℕ) → j + d < n → shifted fs rs n j ≤ shifted fs rs n (j + d)
  climbs j zero h = let e : j + 0 ≡ j = omega arith in rw e (omega arith)
  climbs j (suc d) h =
      let e : j + suc d ≡ j + d + 1 = omega arith in
      rw e (omega (arith, climbs j d (omega arith), shift-next (j + d) (omega arith), g.climb (j + d) (omega arith)))

  rising : Rising (shifted fs rs n) n
  rising j k h u = let e : j + (k - j) ≡ k = omega arith in rw e at (climbs j (k - j) (omega arith))

-- a level that day i is not below has no overload
over_none : (a : ℕ → ℕ) (n i v : ℕ) → Rising a n → v ≤ a i → over all a n i v ≡ 0
over_none a n i v up h = omega (arith, sum-most (above a v) i (n - i) 0 (λ k l u. omega (arith, up i k l (omega arith))))

-- ---- what is read through a view

zeros-length : length zeros ≡ most_days
zeros-length = length-replicate {A = ℕ} most_days 0

-- the rise from day k of m days to the next, from the other end
rises_at : (rs : List ℕ) (n m k : ℕ) → m ≤ most_days → k + 1 < m → at (viewed_rises true rs n m) k ≡ reversed rs n k
rises_at rs n m k few h = written_below (reversed rs n) 0 (m - 1) zeros k (omega arith) (omega (arith, zeros-length))

-- past the last of them stands 0
last-rise : (rs : List ℕ) (n m k : ℕ) → m ≤ k + 1 → k < most_days → at (viewed_rises true rs n m) k ≡ 0
last-rise rs n m k h few = written-past (reversed rs n) 0 (m - 1) zeros k (omega arith) ∙ get_or-replicate most_days k 0 0 few

pub rise_seen : (back : Bool) (rs : List ℕ) (n m k : ℕ) {r : ℕ} → m ≤ most_days → k + 1 < m → r ≡ cond back (reversed rs n k) (at rs k) → r ≡ at (viewed_rises back rs n m) k
rise_seen true rs n m k few h q = q ∙ sym (rises_at rs n m k few h)
rise_seen false rs n m k few h q = q

-- ---- drop_last

module _ {fs rs : List ℕ} {n i margin v past c room top e : ℕ} (g : Carried fs rs n) (t : Sticking fs rs n i margin v past c room top e) where
  pub end_most : e ≤ highest_shift
  end_most = omega (arith, t.window.span.last, shift-most g (past - 1) (omega (arith, t.window.span.inside)))

  pub end_least : rise_offset ≤ e
  end_least = omega (arith, t.window.span.last, shift-least g (past - 1) (omega (arith, t.more)) (omega (arith, t.window.span.inside)))

  less : room ≡ margin + (sum_for (shifted fs rs n) i (c - 1) + top)
  less =
      let at_last : i + c - 1 ≡ past - 1 = omega (arith, t.window.span.ends) in
      omega (arith, t.window.span.total, t.window.span.high, rw at_last at (sum-last (shifted fs rs n) i c t.window.some))

  pub top_fits : top ≤ room
  top_fits = omega (arith, less)

  -- the day before the last, with floor x and shift e', which follows from the rise w between them
  pub dropped : {w x e' : ℕ} → w ≡ at rs (past - 1 - 1) → e' ≡ e + w - rise_offset → x ≡ at fs (past - 1 - 1)
      → Open fs rs n i margin v (past - 1) (c - 1) (room - top) (x + e') e'
  dropped {w} {x} {e'} qw qe qx =
      let p : past - 1 - 1 + 1 ≡ past - 1 = omega (arith, t.more) in
      let s : shift (at rs) n (past - 1 - 1) + rise_offset ≡ shift (at rs) n (past - 1) + at rs (past - 1 - 1) =
      rw p at (shift-next g (past - 1 - 1) (omega (arith, t.more, t.window.span.inside))) in
      let z : e' ≡ shift (at rs) n (past - 1 - 1) = omega (arith, t.window.span.last) in
      record {
        span = record {
          ends = omega (arith, t.window.span.ends, t.window.some);
          inside = omega (arith, t.window.span.inside);
          total = omega (arith, less);
          high = omega arith;
          last = z;
        };
        some = omega (arith, t.more, t.window.span.ends);
        beyond = λ k l u. pick k l u (dec_lt k past);
      }
    where
      pick : (k : ℕ) → past - 1 ≤ k → k < n → Dec (k < past) → v ≤ shifted fs rs n k
      pick k l u (yes h) = let p : k ≡ past - 1 = omega arith in rw p (omega (arith, t.high, t.window.span.high))
      pick k l u (no h) = t.window.beyond k (omega arith) u

-- ---- settle

pub settled : {fs rs : List ℕ} {n i margin v past c room top e : ℕ} → Open fs rs n i margin v past c room top e
    → (i + 1 < past → top < v) → Found fs rs n i margin v past c room top e
settled {fs} {rs} {n} {i} {v = v} {past = past} {c = c} t under =
    let p : i + c - 1 ≡ past - 1 = omega (arith, t.span.ends) in
    record {
      span = t.span;
      found = window_is (shifted fs rs n) n i v c t.some (omega (arith, t.span.ends, t.span.inside))
          (λ h. rw p (omega (arith, t.span.high, under (omega (arith, t.span.ends)))))
          (λ k l u. t.beyond k (omega (arith, t.span.ends)) u);
    }

-- ---- one round

-- what is left of a quotient is less than its divisor
below_next : (x c : ℕ) → 0 < c → x < (x / c + 1) * c
below_next x c h = pick (dec_lt x ((x / c + 1) * c))
  where
    pick : Dec (x < (x / c + 1) * c) → x < (x / c + 1) * c
    pick (yes l) = l
    pick (no l) = let more : x / c + 1 ≤ x / c = (le-div_iff_mul-le h).1 (omega arith) in absurd (omega arith)

-- of two parts of c * v, what one takes of each c, rounded up, and the other, rounded down, are v together
shares : (c v x room : ℕ) → 0 < c → 0 < x → x + room ≡ c * v → (x + c - 1) / c + room / c ≡ v
shares c v x room hc hx e = go (dec_lt (q + p) v) (dec_lt v (q + p))
  where
    q : ℕ
    q = (x + c - 1) / c

    p : ℕ
    p = room / c

    go : Dec (q + p < v) → Dec (v < q + p) → q + p ≡ v
    go (yes l) _ =
        let m : q + p + 1 ≤ v = omega arith in
        absurd (omega (arith, mul-le-mul_left c m, below_next (x + c - 1) c hc, below_next room c hc))
    go (no l) (yes m) =
        let k : v + 1 ≤ q + p = omega arith in
        absurd (omega (arith, mul-le-mul_left c k, div-mul-le_self (x + c - 1) c, div-mul-le_self room c))
    go (no l) (no m) = omega arith

module _ {fs rs : List ℕ} {n i margin v past c room top e : ℕ} (g : Carried fs rs n) (f : Found fs rs n i margin v past c room top e) where
  found_some : 0 < c
  found_some = omega (arith, f.found)

  found-beyond : (k : ℕ) → past ≤ k → k < n → v ≤ shifted fs rs n k
  found-beyond k h u = window-past (shifted fs rs n) n i v k (omega (arith, f.found, f.span.ends)) u

  found-under : i + 1 < past → top < v
  found-under h =
      let p : past - 1 ≡ i + window (shifted fs rs n) n i v - 1 = omega (arith, f.found, f.span.ends) in
      rw (f.span.high, p) (window-under (shifted fs rs n) n i v (omega (arith, f.found, f.span.ends)))

  module _ (base : shifted fs rs n i ≤ v) where
    found_all : (k : ℕ) → i ≤ k → k < i + c → shifted fs rs n k ≤ v
    found_all k h u = pick (dec_lt (i + 1) past)
      where
        pick : Dec (i + 1 < past) → shifted fs rs n k ≤ v
        pick (yes y) =
            omega (
              arith,
              found-under y,
              f.span.high,
              rising g k (past - 1) (omega (arith, f.span.ends)) (omega (arith, f.span.inside)),
            )
        pick (no y) = let p : k ≡ i = omega (arith, f.span.ends) in rw p base

    -- v counts once for each day
    found-load : over all (shifted fs rs n) n i v + room ≡ margin + c * v
    found-load =
        let p : c + (n - past) ≡ n - i = omega (arith, f.span.ends, f.span.inside) in
        let z : over all (shifted fs rs n) n i v ≡ sum_for (above (shifted fs rs n) v) i c =
        rw p at (sum_zeros (above (shifted fs rs n) v) i c (n - past)
        (λ k h u. omega (arith, found-beyond k (omega (arith, f.span.ends)) (omega (arith, f.span.ends, f.span.inside))))) in
        omega (arith, f.span.total, excess_exact (shifted fs rs n) i c v found_all)

    module _ (more : room < c * v) where
      found_active : top < v
      found_active = pick (dec_lt (i + 1) past)
        where
          pick : Dec (i + 1 < past) → top < v
          pick (yes y) = found-under y
          pick (no y) =
              let p : past - 1 ≡ i = omega (arith, f.span.ends, found_some) in
              let q : top ≡ shifted fs rs n i = f.span.high ∙ ap (shifted fs rs n) p in
              last_one q (dec_lt (shifted fs rs n i) v)
            where
              last_one : top ≡ shifted fs rs n i → Dec (shifted fs rs n i < v) → top < v
              last_one q (yes l) = omega arith
              last_one q (no l) = absurd (omega (arith, found-load, over_none (shifted fs rs n) n i v (rising g) (omega arith)))

      -- document 01's round takes v to what the room has for each day, or to the floor of *last* if that is more
      round_is : rounded all (shifted fs rs n) n i margin v ≡ max (room / c) top
      round_is =
          let w : window (shifted fs rs n) n i v ≡ c = sym f.found in
          let p : i + c - 1 ≡ past - 1 = omega (arith, f.span.ends) in
          let r : rounded all (shifted fs rs n) n i margin v
          ≡ v - min ((over all (shifted fs rs n) n i v - margin + c - 1) / c) (v - top) =
          rw (w, p, count-all, ← f.span.high) at (rounded_is all (shifted fs rs n) n i margin v) in
          let both : (over all (shifted fs rs n) n i v - margin + c - 1) / c + room / c ≡ v =
          shares c v (over all (shifted fs rs n) n i v - margin) room found_some (omega (arith, found-load)) (omega (arith, found-load)) in
          omega (arith, r, both, found_active)

      less_is : max (room / c) top < v
      less_is = omega (arith, found_active, half)
        where
          half : room / c < v
          half = pick (dec_lt (room / c) v)
            where
              pick : Dec (room / c < v) → room / c < v
              pick (yes l) = l
              pick (no l) =
                  let m : v ≤ room / c = omega arith in
                  absurd (omega (arith, mul-le-mul_left c m, div-mul-le_self room c))

      once_open : Open fs rs n i margin (max (room / c) top) past c room top e
      once_open =
          record { span = f.span; some = found_some; beyond = λ k h u. omega (arith, less_is, found-beyond k h u) }

module _ {fs rs : List ℕ} {n i margin v past c room top e : ℕ} (g : Carried fs rs n) (t : Overloaded fs rs n i margin v past c room top e) where
  -- what the room has for each day, where it is above top: the window stays
  pub round_even : {q : ℕ} → q ≡ room / c → top < q → Rounded fs rs n i margin v q past c room top e
  round_even {q} is h =
      let m : max (room / c) top ≡ q = omega arith in
      record {
        level = omega (arith, m, round_is g t.window t.base t.more);
        window = settled (rw m at (once_open g t.window t.base t.more)) (λ _. h);
      }

  -- where it is not, v falls to top
  module _ {q : ℕ} (is : q ≡ room / c) (h : q ≤ top) where
    to_top : max (room / c) top ≡ top
    to_top = omega arith

    pub top_open : Open fs rs n i margin top past c room top e
    top_open = rw to_top at (once_open g t.window t.base t.more)

    pub round_top : {u past' c' room' top' e' : ℕ} → (u ≡ top) × Found fs rs n i margin top past' c' room' top' e'
        → Rounded fs rs n i margin v u past' c' room' top' e'
    round_top f = record { level = omega (arith, f.0, to_top, round_is g t.window t.base t.more); window = rw f.0 f.1 }

-- ---- lower

-- at its loop's head: each level above v, up to cap, is over the margin
pub record Stand (fs rs : List ℕ) (n i margin cap v past c room top e : ℕ) : Type 0 where
  pub window : Found fs rs n i margin v past c room top e
  pub base : shifted fs rs n i ≤ v
  pub fits : v ≤ cap
  pub higher : (u : ℕ) → v < u → u ≤ cap → margin < over all (shifted fs rs n) n i u

stand_start : {fs rs : List ℕ} {n i margin cap v past c room top e : ℕ} → (v ≡ cap) × Found fs rs n i margin cap past c room top e → shifted fs rs n i ≤ cap
    → Stand fs rs n i margin cap v past c room top e
stand_start f b = record { window = rw f.0 f.1; base = omega (arith, f.0); fits = omega (arith, f.0); higher = λ u h l. absurd (omega (arith, f.0)) }

module _ {fs rs : List ℕ} {n i margin cap v past c room top e : ℕ} (g : Carried fs rs n) (t : Stand fs rs n i margin cap v past c room top e) where
  pub stand_done : {first : ℕ} → cap ≡ first → c * v ≤ room → Lowest fs rs n i margin first v past c room top e
  stand_done is h =
      rw (← is) record {
        level = record { least = t.base; most = t.fits; within = omega (arith, found-load g t.window t.base); past = t.higher };
        window = t.window;
      }

  module _ (h : room < c * v) where
    -- each level between is over the margin: its days take more than the room
    passed : (u : ℕ) → max (room / c) top < u → u ≤ cap → Dec (v < u) → margin < over all (shifted fs rs n) n i u
    passed u l m (yes y) = t.higher u y m
    passed u l m (no y) =
        let p : c + (n - past) ≡ n - i = omega (arith, t.window.span.ends, t.window.span.inside) in
        let part : sum_for (above (shifted fs rs n) u) i c ≤ over all (shifted fs rs n) n i u = rw p at (sum_part (above (shifted fs rs n) u) i c (n - past)) in
        let k : room / c + 1 ≤ u = omega arith in
        omega (
          arith,
          mul-le-mul_left c k,
          below_next room c (found_some g t.window),
          excess_low (shifted fs rs n) i c u,
          t.window.span.total,
        )

    module _ {u past' c' room' top' e' : ℕ} (q : Rounded fs rs n i margin v u past' c' room' top' e') where
      stand_level : u ≡ max (room / c) top
      stand_level = q.level ∙ round_is g t.window t.base h

      pub stand_less : u < v
      stand_less = omega (arith, stand_level, less_is g t.window t.base h)

      pub stand_turn : Stand fs rs n i margin cap u past' c' room' top' e'
      stand_turn =
          record {
            window = q.window;
            base = omega (
              arith,
              stand_level,
              t.window.span.high,
              rising g i (past - 1) (omega (arith, t.window.span.ends, found_some g t.window)) (omega (arith, t.window.span.inside, t.window.span.ends, found_some g t.window)),
            );
            fits = omega (arith, stand_less, t.fits);
            higher = λ w l m. passed w (omega (arith, stand_level)) m (dec_lt v w);
          }

-- ---- lower_day

module _ {fs rs : List ℕ} {n i margin ceiling floor v past c room top e : ℕ} (g : Carried fs rs n) (t : Entering fs rs n i margin ceiling floor v past c room top e) where
  -- the day fits as it is
  pub day-fits : (top < min v ceiling) × ((c + 1) * min v ceiling ≤ room + floor) → Lowest fs rs n i margin (min v ceiling) (min v ceiling) past (c + 1) (room + floor) top e
  day-fits h = stand_done g (stand_start (refl, settled t.window (λ _. h.0)) t.base) refl h.1

-- ---- the passes

lowered_start : (fs cs rs : List ℕ) (n margin : ℕ) → lowered_from fs cs rs n all margin 0 ≡ shifted cs rs n (n - 1)
unfolding lowered_from
lowered_start fs cs rs n margin = refl

lowered-more : (fs cs rs : List ℕ) (n margin m : ℕ)
    → lowered_from fs cs rs n all margin (m + 1)
    ≡ fit (overload fs rs n all (n - (m + 1))) margin (shifted fs rs n (n - (m + 1)))
    (min (lowered_from fs cs rs n all margin m) (shifted cs rs n (n - (m + 1))))
unfolding lowered_from
lowered-more fs cs rs n margin m = rw add-one

-- with the days from i on done, those of them before `past` are those below v
pub record Pass (fs cs rs : List ℕ) (n margin v past c room top e i : ℕ) : Type 0 where
  pub most : i ≤ n
  pub level : v ≡ lowered_from fs cs rs n all margin (n - i)
  pub low : v ≤ highest_shifted
  pub span : Span fs rs n i margin past c room top e
  pub beyond : (k : ℕ) → past ≤ k → k < n → v ≤ shifted fs rs n k
  pub base : (k : ℕ) → k < i → shifted fs rs n k ≤ v

floors-carried : {fs cs rs : List ℕ} {n : ℕ} → Ready fs cs rs n → Carried fs rs n
floors-carried g = record { most = g.most; floor = λ k h. omega (arith, g.fits k h, g.ceiling k h); rise = g.rise; climb = g.rising }

-- past the last day, and on it
shift-past : (rs : List ℕ) (n : ℕ) → shift (at rs) n n ≡ last_shift
shift-past rs n = let z : n - n ≡ 0 = omega arith in rw z (shift_start (at rs) n)

-- from one day's shift and the rise code before it, that of the day before
module _ {fs rs : List ℕ} {n here w k : ℕ} (g : Carried fs rs n) (few : k < n) (is : here ≡ shift (at rs) n (k + 1)) (q : w ≡ at rs k) where
  shift-asks : (here ≤ highest_shift) × (w < 65536) × (rise_offset ≤ here + w)
  shift-asks = (omega (arith, shift-most g (k + 1) (omega arith)), omega (arith, g.rise k few), omega (arith, shift-next g k few))

  shift_now : {e : ℕ} → e ≡ here + w - rise_offset → e ≡ shift (at rs) n k
  shift_now h = omega (arith, shift-next g k few)

module _ {fs cs rs : List ℕ} {n margin : ℕ} (g : Ready fs cs rs n) where
  -- before the last day, whose shift is e, its ceiling y and its floor x
  pass_start : {e y x : ℕ} → e ≡ shift (at rs) n (n - 1) → y ≡ at cs (n - 1) → x ≡ at fs (n - 1)
      → Pass fs cs rs n margin (y + e) n 0 margin (x + e) e n
  pass_start {e} {y} {x} qe qy qx =
      let z : n - n ≡ 0 = omega arith in
      let v : y + e ≡ shifted cs rs n (n - 1) = omega arith in
      record {
        most = omega arith;
        level = rw z (v ∙ sym (lowered_start fs cs rs n margin));
        low = omega (arith, g.ceiling (n - 1) (omega (arith, g.some)), shift-most (floors-carried g) (n - 1) (omega arith));
        span = record {
          ends = omega arith;
          inside = omega arith;
          total = omega (arith, sum-none (shifted fs rs n) n);
          high = omega arith;
          last = qe;
        };
        beyond = λ k h u. absurd (omega arith);
        base = λ k h. omega (arith, rising (floors-carried g) k (n - 1) (omega arith) (omega arith), g.fits (n - 1) (omega (arith, g.some)));
      }

  module _ {v past c room top e i : ℕ} (p : Pass fs cs rs n margin v past c room top e i) where
    -- one day down, to day k, whose shift is `here`, its ceiling y and its floor x
    module _ (k : ℕ) {here y x : ℕ} (q : i ≡ k + 1) (now : here ≡ shift (at rs) n k) (qy : y ≡ at cs k) (qx : x ≡ at fs k) where
      cap_is : min v (y + here) ≡ min v (shifted cs rs n k)
      cap_is = omega arith

      cap_base : shifted fs rs n k ≤ min v (y + here)
      cap_base = omega (arith, cap_is, g.fits k (omega (arith, p.most)), p.base k (omega arith))

      entered : room + (x + here) ≡ margin + sum_for (shifted fs rs n) k (c + 1)
      entered =
          let low : x + here ≡ shifted fs rs n k = omega arith in
          let total : sum_for (shifted fs rs n) k (c + 1) ≡ shifted fs rs n k + sum_for (shifted fs rs n) i c = rw (← q) at (sum-front (shifted fs rs n) k c) in
          omega (arith, low, total, p.span.total)

      entered-small : margin ≤ highest_held → room + (x + here) ≤ highest_room
      entered-small small =
          let few : c + 1 ≤ most_days = omega (arith, p.span.ends, p.span.inside, g.most) in
          omega (
            arith,
            entered,
            mul-le-mul_left highest_shifted few,
            sum-most (shifted fs rs n) k (c + 1) highest_shifted (λ j h u. shifted-most (floors-carried g) j (omega (arith, p.span.ends, p.span.inside))),
          )

      pass_enters : margin ≤ highest_held → Entering fs rs n k margin (y + here) (x + here) v past c room top e
      pass_enters small =
          record {
            window = record {
              span = record {
                ends = omega (arith, p.span.ends);
                inside = p.span.inside;
                total = entered;
                high = p.span.high;
                last = p.span.last;
              };
              some = omega arith;
              beyond = λ j h u. omega (arith, p.beyond j h u);
            };
            low = omega (arith, p.low);
            base = cap_base;
            small = entered-small small;
          }

      module _ {v' past' c' room' top' e' : ℕ} (l : Lowest fs rs n k margin (min v (y + here)) v' past' c' room' top' e') where
        -- the level found is the definition's
        pass_level : v' ≡ lowered_from fs cs rs n all margin (n - k)
        pass_level =
            let m : n - i + 1 ≡ n - k = omega (arith, p.most) in
            let r : n - (n - k) ≡ k = omega (arith, p.most) in
            let d : lowered_from fs cs rs n all margin (n - k)
            ≡ fit (overload fs rs n all k) margin (shifted fs rs n k) (min (lowered_from fs cs rs n all margin (n - i)) (shifted cs rs n k)) =
            rw (m, r) at (lowered-more fs cs rs n margin (n - i)) in
            let b : min v (y + here) ≡ min (lowered_from fs cs rs n all margin (n - i)) (shifted cs rs n k) =
            cap_is ∙ ap (λ x. min x (shifted cs rs n k)) p.level in
            let start : overload fs rs n all k (shifted fs rs n k) ≤ margin =
            omega (arith, over_none (shifted fs rs n) n k (shifted fs rs n k) (rising (floors-carried g)) (omega arith)) in
            fitted-one l.level (fitted (overload fs rs n all k) margin (shifted fs rs n k) start (min v (y + here)) cap_base)
            ∙ ap (fit (overload fs rs n all k) margin (shifted fs rs n k)) b
            ∙ sym d

        -- as shown it is a level
        pass_shown : (here ≤ v') × (v' - here ≤ highest_level)
        pass_shown = (omega (arith, l.level.least), omega (arith, cap_is, l.level.most, g.ceiling k (omega (arith, p.most))))

        pass_stored : v' - here ≡ lowered fs cs rs n all margin k
        pass_stored = omega (arith, pass_level)

        pass_turn : Pass fs cs rs n margin v' past' c' room' top' e' k
        pass_turn =
            record {
              most = omega (arith, p.most);
              level = pass_level;
              low = omega (arith, l.level.most, p.low);
              span = l.window.span;
              beyond = found-beyond (floors-carried g) l.window;
              base = λ j h. omega (arith, rising (floors-carried g) j k (omega arith) (omega (arith, p.most)), l.level.least);
            }

-- ---- lower_ceilings

-- the lowered ceiling of the m-th day from the end, as shown
abbrev shown : List ℕ → List ℕ → List ℕ → ℕ → ℕ → ℕ → ℕ
shown fs cs rs n margin m = lowered_from fs cs rs n all margin m - shift_from (at rs) n m

-- ceilings lowered down to the first counted day, and carried back from there
module _ {fs cs rs : List ℕ} {n first : ℕ} (g : Ready fs cs rs n) (counts : first < n) (margin : ℕ) where
  abbrev done : List ℕ
  done = last_written (shown fs cs rs n margin) n (n - first) cs

  done_first : at done first ≡ lowered fs cs rs n (counted first n) margin first
  done_first =
      last_at (shown fs cs rs n margin) 0 n (n - first) cs first (omega arith) (omega arith) counts (omega (arith, g.ceilings, g.most)) ∙ sym (lowered-counted g margin first (le_refl first) counts)

  back_is : (m : ℕ) → m ≤ first → back_from done rs first m ≡ lowered fs cs rs n (counted first n) margin (first - m)
  unfolding back_from
  back_is zero h = let e : first - 0 ≡ first = omega arith in rw e done_first
  back_is (suc m) h =
      let k : first - suc m + 1 ≡ first - m = omega arith in
      let old : at done (first - suc m) ≡ at cs (first - suc m) = last-before _ 0 n (n - first) cs (first - suc m) (omega arith) in
      let next : lowered fs cs rs n (counted first n) margin (first - suc m)
      ≡ min (at cs (first - suc m)) (lowered fs cs rs n (counted first n) margin (first - m) + rise_offset - at rs (first - suc m)) =
      rw k at (lowered-before g counts margin (first - suc m) (omega arith)) in
      omega (arith, old, next, back_is m (omega arith))

  carried-all : written (carried_back done rs first) first done ≡ written (lowered fs cs rs n (counted first n) margin) n cs
  carried-all =
      written_same (carried_back done rs first) (lowered fs cs rs n (counted first n) margin) first done
      (λ k h. let e : first - (first - k) ≡ k = omega arith in rw e at (back_is (first - k) (omega arith)))
      ∙ last-front (shown fs cs rs n margin) (lowered fs cs rs n (counted first n) margin) n first cs (omega arith)
      (λ k h l. sym (lowered-counted g margin k h l))

-- at the loop's head, with the days from i on done; `here` is the shift of day i
pub record Lowering (fs cs rs : List ℕ) (n first margin : ℕ) (out : List ℕ) (here v past c room top e i : ℕ) : Type 0 where
  pub late : first ≤ i
  pub shift-here : here ≡ shift (at rs) n i
  pub pass : Pass fs cs rs n margin v past c room top e i
  pub made : out ≡ last_written (shown fs cs rs n margin) n (n - i) cs

pub plain_sight : {fs cs rs : List ℕ} {n : ℕ} → Ready fs cs rs n → Sight false fs rs n n
plain_sight {n = n} g = record { all = g.most; some = le_refl n; small = (floors-carried g).floor; carried = floors-carried g }

module _ {fs cs rs : List ℕ} {n first margin : ℕ} (g : Ready fs cs rs n) where
  pub lowering_start : first < n → {e : ℕ} → e ≡ last_shift + at rs (n - 1) - rise_offset
      → Lowering fs cs rs n first margin cs last_shift (at cs (n - 1) + e) n 0 margin (at fs (n - 1) + e) e n
  lowering_start counts qe =
      let z : n - n ≡ 0 = omega arith in
      let o : n - 1 + 1 ≡ n = omega (arith, g.some) in
      let past : last_shift ≡ shift (at rs) n n = sym (shift-past rs n) in
      record {
        late = omega arith;
        shift-here = past;
        pass = pass_start g (shift_now (floors-carried g) (omega (arith, g.some)) (rw o past) refl qe) refl refl;
        made = rw z (sym (last_none _ n cs));
      }

  -- a turn does day i - 1
  module _ {out : List ℕ} {here v past c room top e i : ℕ} (t : Lowering fs cs rs n first margin out here v past c room top e i) (more : first < i) where
    day_next : i ≡ i - 1 + 1
    day_next = omega arith

    day_inside : i - 1 < n
    day_inside = omega (arith, t.pass.most)

    pub lowering_asks : (here ≤ highest_shift) × (at rs (i - 1) < 65536) × (rise_offset ≤ here + at rs (i - 1))
    lowering_asks = shift-asks (floors-carried g) day_inside (rw day_next at t.shift-here) refl

    ceiling_old : at out (i - 1) ≡ at cs (i - 1)
    ceiling_old = ap (λ l. at l (i - 1)) t.made ∙ last-before _ 0 n (n - i) cs (i - 1) (omega (arith, t.pass.most))

    module _ {here' : ℕ} (qh : here' ≡ here + at rs (i - 1) - rise_offset) where
      shift_here : here' ≡ shift (at rs) n (i - 1)
      shift_here = shift_now (floors-carried g) day_inside (rw day_next at t.shift-here) refl qh

      pub lowering_enters : margin ≤ highest_held → Entering fs rs n (i - 1) margin (at out (i - 1) + here') (at fs (i - 1) + here') v past c room top e
      lowering_enters small = pass_enters g t.pass (i - 1) day_next shift_here ceiling_old refl small

      module _ {v' past' c' room' top' e' : ℕ} (l : Lowest fs rs n (i - 1) margin (min v (at out (i - 1) + here')) v' past' c' room' top' e') where
        pub lowering_shown : (here' ≤ v') × (v' - here' ≤ highest_level)
        lowering_shown = pass_shown g t.pass (i - 1) day_next shift_here ceiling_old refl l

        pub lowering_turn : {u : ℕ} → u ≡ v' - here' → Lowering fs cs rs n first margin (set out (i - 1) u) here' v' past' c' room' top' e' (i - 1)
        lowering_turn {u} qu =
            let m : n - i + 1 ≡ n - (i - 1) = omega (arith, t.pass.most) in
            let k : n - (n - (i - 1)) ≡ i - 1 = omega (arith, t.pass.most) in
            let z : u ≡ shown fs cs rs n margin (n - i + 1) = rw m (qu ∙ pass_stored g t.pass (i - 1) day_next shift_here ceiling_old refl l) in
            record {
              late = omega arith;
              shift-here = shift_here;
              pass = pass_turn g t.pass (i - 1) day_next shift_here ceiling_old refl l;
              made = ap (λ l. set l (i - 1) u) t.made ∙ (rw (m, k) at (last_more (shown fs cs rs n margin) n (n - i) cs u z));
            }

  -- after the first counted day, whose ceiling is carried back to the days before it
  pub lowering_end : {out : List ℕ} {here v past c room top e i : ℕ} → Lowering fs cs rs n first margin out here v past c room top e i → first < n → i ≤ first
      → {l : List ℕ} → l ≡ written (carried_back out rs first) first out → l ≡ written (lowered fs cs rs n (counted first n) margin) n cs
  lowering_end {out} {i = i} t counts below q =
      let e : i ≡ first = omega (arith, t.late) in
      let done : out ≡ last_written (shown fs cs rs n margin) n (n - first) cs = rw e at t.made in
      q ∙ (rw done (carried-all g counts margin))

-- ---- raise_floors: the same over the mirror of the counted days

module _ {fs cs rs : List ℕ} {n : ℕ} (h : FloorsReady fs cs rs n) where
  back-ready : Ready (mirrored_all cs n) (mirrored_all fs n) (reversed_all rs n) n
  back-ready = mirrored-ready h.ready h.rising

  pub floor-small : (k : ℕ) → k < n → at fs k ≤ highest_level
  floor-small k l = omega (arith, h.ready.fits k l, h.ready.ceiling k l)

  -- the mirrored floors rise
  back-rising : Stages.Rising (mirrored_all fs n) (reversed_all rs n) n
  back-rising = (mirrored-ready own h.ready.rising).rising
    where
      own : Ready fs fs rs n
      own =
          let r = h.ready in
          record {
            some = r.some;
            most = r.most;
            floors = r.floors;
            ceilings = r.floors;
            rises = r.rises;
            fits = λ k l. le_refl (at fs k);
            ceiling = floor-small;
            rise = r.rise;
            rising = r.rising;
          }

-- m of these days are ready too
module _ {fs cs rs : List ℕ} {n m : ℕ} (h : FloorsReady fs cs rs n) (some : 0 < m) (few : m ≤ n) where
  part_rise : (k : ℕ) → k < m → Dec (k + 1 < m) → at (viewed_rises true rs n m) k ≤ highest_rise_code
  part_rise k l (yes u) = omega (arith, rises_at rs n m k (omega (arith, h.ready.most)) u, h.ready.rise (n - (k + 2)) (omega arith))
  part_rise k l (no u) = omega (arith, last-rise rs n m k (omega arith) (omega (arith, h.ready.most)))

  rises-same : (k : ℕ) → k + 1 < m → at (viewed_rises true rs n m) k ≡ at (reversed_all rs n) k
  rises-same k l = rises_at rs n m k (omega (arith, h.ready.most)) l ∙ sym (reversed_at n h.ready.most rs k (omega arith))

  part_ready : Ready (mirrored_all cs n) (mirrored_all fs n) (viewed_rises true rs n m) m
  part_ready =
      let r = back-ready h in
      record {
        some = some;
        most = omega (arith, r.most);
        floors = r.floors;
        ceilings = r.ceilings;
        rises = length-written (reversed rs n) (m - 1) zeros ∙ zeros-length;
        fits = λ k l. r.fits k (omega arith);
        ceiling = λ k l. r.ceiling k (omega arith);
        rise = λ k l. part_rise k l (dec_lt (k + 1) m);
        rising = λ k l. omega (arith, rises-same k l, r.rising k (omega arith));
      }

  pub back_sight : Sight true cs rs n m
  back_sight = record { all = h.ready.most; some = few; small = h.ready.ceiling; carried = floors-carried part_ready }

  -- the pass over them is that of all days, of which they count
  part_lowered : (margin k : ℕ) → k < m
      → lowered (mirrored_all cs n) (mirrored_all fs n) (reversed_all rs n) n (counted 0 m) margin k ≡ lowered (mirrored_all cs n) (mirrored_all fs n) (viewed_rises true rs n m) m all margin k
  part_lowered margin k l = lowered-front (back-ready h) part_ready few rises-same (back-rising h) margin k l

-- day i of a list, seen from the other end
seen : (l : List ℕ) (n i : ℕ) {y : ℕ} → n ≤ most_days → i < n → y ≡ highest_level - at l i → y ≡ at (mirrored_all l n) (n - (i + 1))
seen l n i few h q =
    let e : n - (n - (i + 1) + 1) ≡ i = omega arith in
    rw q (sym (mirrored_at n few l (n - (i + 1)) (omega arith) ∙ ap (λ (k : ℕ). highest_level - at l k) e))

-- the raised floor of day k
abbrev high : List ℕ → List ℕ → List ℕ → ℕ → ℕ → ℕ → ℕ → ℕ
high fs cs rs n first margin = mirrored (lowered_all (mirrored_all cs n) (mirrored_all fs n) (reversed_all rs n) n (counted 0 (n - first)) margin) n

-- the rises between the counted days
abbrev rises_from : List ℕ → ℕ → ℕ → List ℕ
rises_from rs n first = viewed_rises true rs n (n - first)

-- at the loop's head, with the floors before day i raised; `here` is the shift of the day before, seen from the other end, and `rise` that from it to day i
pub record Raising (fs cs rs : List ℕ) (n first margin : ℕ) (out : List ℕ) (here rise v past c room top e i : ℕ) : Type 0 where
  pub late : first ≤ i
  pub most : i ≤ n
  pub shift-here : here ≡ shift (at (rises_from rs n first)) (n - first) (n - i)
  pub rise-here : i < n → rise ≡ at (rises_from rs n first) (n - (i + 1))
  pub pass : Pass (mirrored_all cs n) (mirrored_all fs n) (rises_from rs n first) (n - first) margin v past c room top e (n - i)
  pub made : out ≡ written (high fs cs rs n first margin) i fs

module _ {fs cs rs : List ℕ} {n first : ℕ} (h : FloorsReady fs cs rs n) (counts : first < n) where
  ready : Ready (mirrored_all cs n) (mirrored_all fs n) (rises_from rs n first) (n - first)
  ready = part_ready h (omega arith) (omega arith)

  carried-floors : Carried (mirrored_all cs n) (rises_from rs n first) (n - first)
  carried-floors = floors-carried ready

  -- a floor before the counted days stays
  kept : (margin k : ℕ) → k < first → high fs cs rs n first margin k ≡ at fs k
  kept margin k l =
      let e : n - (n - (k + 1) + 1) ≡ k = omega arith in
      omega (
        arith,
        lowered_at (back-ready h) (counted 0 (n - first)) margin (n - (k + 1)) (omega arith),
        lowered-past {m = n - first} (back-ready h) (back-rising h) margin (n - (k + 1)) (omega arith) (omega arith),
        rw e at (mirrored_at n h.ready.most fs (n - (k + 1)) (omega arith)),
        floor-small h k (omega arith),
      )

module _ {fs cs rs : List ℕ} {n first margin : ℕ} (h : FloorsReady fs cs rs n) (counts : first < n) where
  pub raising_start : {e y x : ℕ} → e + rise_offset ≡ last_shift → y ≡ highest_level - at fs first → x ≡ highest_level - at cs first
      → Raising fs cs rs n first margin fs last_shift 0 (y + e) (n - first) 0 margin (x + e) e first
  raising_start {e} {y} {x} qe qy qx =
      let one : n - (first + 1) ≡ n - first - 1 = omega arith in
      let o : n - first ≡ n - first - 1 + 1 = omega arith in
      let none : 0 ≡ at (rises_from rs n first) (n - first - 1) = sym (last-rise rs n (n - first) (n - first - 1) (omega arith) (omega (arith, h.ready.most))) in
      let past : last_shift ≡ shift (at (rises_from rs n first)) (n - first) (n - first) = sym (shift-past (rises_from rs n first) (n - first)) in
      let end : e ≡ shift (at (rises_from rs n first)) (n - first) (n - first - 1) = shift_now (carried-floors h counts) (omega arith) (past ∙ ap (shift (at (rises_from rs n first)) (n - first)) o) none (omega arith) in
      record {
        late = omega arith;
        most = omega arith;
        shift-here = past;
        rise-here = λ _. rw one none;
        pass = pass_start (ready h counts) end (rw one at (seen fs n first h.ready.most counts qy)) (rw one at (seen cs n first h.ready.most counts qx));
        made = sym (written_same (high fs cs rs n first margin) (at fs) first fs (kept h counts margin) ∙ written_own 0 first fs);
      }

  module _ {out : List ℕ} {here rise v past c room top e i : ℕ} (t : Raising fs cs rs n first margin out here rise v past c room top e i) where
    -- a turn does day i
    module _ (more : i < n) where
      next : n - i ≡ n - (i + 1) + 1
      next = omega arith

      inside : n - (i + 1) < n - first
      inside = omega (arith, t.late)

      pub raising_asks : (here ≤ highest_shift) × (rise < 65536) × (rise_offset ≤ here + rise)
      raising_asks = shift-asks (carried-floors h counts) inside (rw next at t.shift-here) (t.rise-here more)

      pub raising_old : at out i ≤ highest_level
      raising_old = omega (arith, ap (λ l. at l i) t.made, written-past (high fs cs rs n first margin) 0 i fs i (omega arith), floor-small h i more)

      module _ {here' y x : ℕ} (qh : here' ≡ here + rise - rise_offset) (qy : y ≡ highest_level - at out i) (qx : x ≡ highest_level - at cs i) where
        now : here' ≡ shift (at (rises_from rs n first)) (n - first) (n - (i + 1))
        now = shift_now (carried-floors h counts) inside (rw next at t.shift-here) (t.rise-here more) qh

        floor_is : y ≡ at (mirrored_all fs n) (n - (i + 1))
        floor_is = seen fs n i h.ready.most more (omega (arith, ap (λ l. at l i) t.made, written-past (high fs cs rs n first margin) 0 i fs i (omega arith)))

        ceiling_is : x ≡ at (mirrored_all cs n) (n - (i + 1))
        ceiling_is = seen cs n i h.ready.most more qx

        pub raising_enters : margin ≤ highest_held
            → Entering (mirrored_all cs n) (rises_from rs n first) (n - first) (n - (i + 1)) margin (y + here') (x + here') v past c room top e
        raising_enters small = pass_enters (ready h counts) t.pass (n - (i + 1)) next now floor_is ceiling_is small

        module _ {v' past' c' room' top' e' : ℕ}
            (l : Lowest (mirrored_all cs n) (rises_from rs n first) (n - first) (n - (i + 1)) margin (min v (y + here')) v' past' c' room' top' e') where
          pub raising_shown : (here' ≤ v') × (v' - here' ≤ highest_level)
          raising_shown = pass_shown (ready h counts) t.pass (n - (i + 1)) next now floor_is ceiling_is l

          written_up : {u : ℕ} → u ≡ highest_level - (v' - here') → set out i u ≡ written (high fs cs rs n first margin) (i + 1) fs
          written_up {u} qu =
              let a : at (lowered_all (mirrored_all cs n) (mirrored_all fs n) (reversed_all rs n) n (counted 0 (n - first)) margin) (n - (i + 1)) ≡ v' - here' =
              lowered_at (back-ready h) (counted 0 (n - first)) margin (n - (i + 1)) (omega arith)
              ∙ part_lowered h (omega arith) (omega arith) margin (n - (i + 1)) inside
              ∙ sym (pass_stored (ready h counts) t.pass (n - (i + 1)) next now floor_is ceiling_is l) in
              ap (λ o. set o i u) t.made ∙ written-more _ i fs u (qu ∙ ap (λ (x : ℕ). highest_level - x) (sym a))

          rise_is : i + 1 < n → at rs i ≡ at (rises_from rs n first) (n - (i + 1 + 1))
          rise_is m =
              let k : n - (n - (i + 1 + 1) + 2) ≡ i = omega arith in
              sym (rises_at rs n (n - first) (n - (i + 1 + 1)) (omega (arith, h.ready.most)) (omega (arith, t.late)) ∙ ap (at rs) k)

          pub raising_turn : {u : ℕ} → u ≡ highest_level - (v' - here')
              → Raising fs cs rs n first margin (set out i u) here' (at rs i) v' past' c' room' top' e' (i + 1)
          raising_turn qu =
              record {
                late = omega (arith, t.late);
                most = omega arith;
                shift-here = now;
                rise-here = rise_is;
                pass = pass_turn (ready h counts) t.pass (n - (i + 1)) next now floor_is ceiling_is l;
                made = written_up qu;
              }

    pub raising_end : n ≤ i → out ≡ raised fs cs rs n first margin
    raising_end m =
        let z : i ≡ n = omega (arith, t.most) in
        (rw z at t.made) ∙ sym (raised_is fs cs rs n first margin)
