-- Tightening is exact: where it finds none there are no levels within the bounds, and otherwise its ranges are just the values that such levels take.
use Prim.Native.Nat.{ℕ, zero, suc, ◌+◌, ◌-◌, ◌≤◌, ◌<◌, min, max}
use mathlib.Core.Path.{◌≡◌, refl, sym, ◌∙◌}
use mathlib.Core.Bool.{true, false, true≢false}
use mathlib.Core.List.{List}
use native.Mathlib.Numerals.{add-one}
use native.Mathlib.Nat.{le_refl}
use native.Mathlib.Omega.{arith}
use lib.ListN.{length}
use Rattle.limits.specs.Limits.{most_days}
use Rattle.theory_lists.specs.Sum.{at}
use Rattle.theory_lists.specs.Written.{length-written, written-past}
use Rattle.theory_chains.specs.Sum.{sum, sum_eq, sum_le}
use Rattle.theory_chains.specs.Chain.{Chain, Below}
use Rattle.theory_chains.specs.Ceilings.{ceiling-chain}
use Rattle.theory_chains.specs.Settle.{Greatest, settled, capped, settled-chain, settled_same, capped_greatest}
use Rattle.theory_chains.specs.Rounds.{free}
use Rattle.theory_chains.specs.Box.{high, low, Ranges, inward, total_kept, sufficient}
use Rattle.theory_chains.specs.Spans.{NatSpans, spans_same}
use Rattle.theory_method.specs.Shift.{shift}
use Rattle.theory_method.specs.Filter as Filter
use Rattle.theory_method.specs.Counted.{counted}
use Rattle.theory_method.specs.Filter.{Box, box, InBounds, Tight, spare, held, shifted, lowered, carried, first_crossed, forwarded, lowered_all, raised, tight_floors, tight_ceilings, tightened}
use Rattle.theory_method.specs.Stages.{Ready}
use Rattle.theory_method.proofs.Stages.{by_order, ready, crossing, carried-above, forwarded_at, lowered-ready, lowered-rising, floors-chain, raised_is}
use Rattle.theory_method.specs.Levels.{Levels, shifted_total}
use Rattle.theory_method.proofs.Levels.{refit, rebound, shifts_low, shifted_sum, shifted-sched, day_spans, total_spans}
use Rattle.theory_method.proofs.Passes.{scale, within_scale, ceilings_are, floors_are}

-- the ranges of t are the values that levels within the bounds take, and no others; past the last day nothing has changed
pub record Exact (b : Box) (t : Tight) : Type 0 where
  pub day : (k : ℕ) → k < b.days → NatSpans (Levels b) (λ x. x k) (at t.floors k) (at t.ceilings k)
  pub total : NatSpans (Levels b) (held b.days b.first) t.lowest t.highest
  pub floors : length t.floors ≡ most_days
  pub ceilings : length t.ceilings ≡ most_days
  pub floors-past : (k : ℕ) → b.days ≤ k → at t.floors k ≡ at b.floors k
  pub ceilings-past : (k : ℕ) → b.days ≤ k → at t.ceilings k ≡ at b.ceilings k

-- so they are within the bounds themselves
module _ {fs cs rs : List ℕ} {n first L U : ℕ} {t : Tight} (e : Exact (box fs cs rs n first L U) t) where
  pub floor-kept : (k : ℕ) → k < n → at fs k ≤ at t.floors k
  floor-kept k h = let z = (e.day k h).taken (at t.floors k) (le_refl (at t.floors k)) (e.day k h).some in omega (arith, z.1.floor k h, z.2)

  pub ceiling-kept : (k : ℕ) → k < n → at t.ceilings k ≤ at cs k
  ceiling-kept k h = let z = (e.day k h).taken (at t.ceilings k) (e.day k h).some (le_refl (at t.ceilings k)) in omega (arith, z.1.ceiling k h, z.2)

  pub least_kept : L ≤ t.lowest
  least_kept = let z = e.total.taken t.lowest (le_refl t.lowest) e.total.some in omega (arith, z.1.least, z.2)

  pub most-kept : t.highest ≤ U
  most-kept = let z = e.total.taken t.highest e.total.some (le_refl t.highest) in omega (arith, z.1.most, z.2)

  -- the levels within them are the same
  pub tighter : (x : ℕ → ℕ) → Levels (box fs cs rs n first L U) x → Levels (box t.floors t.ceilings rs n first t.lowest t.highest) x
  tighter x l = rebound l (λ k h. ((e.day k h).inside x l).0) (λ k h. ((e.day k h).inside x l).1) (e.total.inside x l).0 (e.total.inside x l).1

  pub looser : (x : ℕ → ℕ) → Levels (box t.floors t.ceilings rs n first t.lowest t.highest) x → Levels (box fs cs rs n first L U) x
  looser x l =
      rebound l (λ k h. omega (arith, floor-kept k h, l.floor k h)) (λ k h. omega (arith, ceiling-kept k h, l.ceiling k h)) (omega (arith, least_kept, l.least))
      (omega (arith, most-kept, l.most))

  pub exact_in_bounds : InBounds (box fs cs rs n first L U) → InBounds (box t.floors t.ceilings rs n first t.lowest t.highest)
  exact_in_bounds b =
      refit b e.floors e.ceilings (λ k h. omega (arith, (e.day k h).some, ceiling-kept k h, b.ceiling k h)) (λ k h. omega (arith, ceiling-kept k h, b.ceiling k h))
      (omega (arith, e.total.some, most-kept, b.highest)) (omega (arith, most-kept, b.highest))

-- none found where there are no levels within the bounds, and exact ranges otherwise
pub record Right (b : Box) (t : Tight) : Type 0 where
  pub none : t.found ≡ false → (x : ℕ → ℕ) → Levels b x → ⊥
  pub exact : t.found ≡ true → Exact b t

-- ---- with the floors carried and their total within

module _ {fs cs rs : List ℕ} {n first : ℕ} (r : Ready fs cs rs n) (counts : first < n) (L U : ℕ) (within : held n first (at fs) ≤ U) where
  abbrev margin : ℕ
  margin = U - held n first (at fs)

  abbrev cs' : List ℕ
  cs' = lowered_all fs cs rs n (counted first n) margin

  abbrev lowest : ℕ
  lowest = max L (held n first (at fs))

  abbrev highest : ℕ
  highest = min U (held n first (at cs'))

  -- a least total below that of the floors says nothing
  with_lowest : (x : ℕ → ℕ) → Levels (box fs cs rs n first L U) x → Levels (box fs cs rs n first lowest U) x
  with_lowest x l = rebound l l.floor l.ceiling (omega (arith, l.least, sum_le (counted first n) n (at fs) x l.floor)) l.most

  without_lowest : (x : ℕ → ℕ) → Levels (box fs cs rs n first lowest U) x → Levels (box fs cs rs n first L U) x
  without_lowest x l = rebound l l.floor l.ceiling (omega (arith, l.least)) l.most

  abbrev a₀ : ℕ → ℕ
  a₀ = shifted fs rs n

  abbrev b₀ : ℕ → ℕ
  b₀ = shifted cs rs n

  abbrev top : ℕ
  top = scale rs n

  abbrev U' : ℕ
  U' = shifted_total rs n first U

  abbrev a : ℕ → ℕ
  a = settled n free a₀

  abbrev b : ℕ → ℕ
  b = capped n top free b₀

  abbrev hi : ℕ → ℕ
  hi = high (counted first n) n free a₀ b₀ U' top

  a_is : (k : ℕ) → k < n → a k ≡ a₀ k
  a_is = settled_same n free a₀ (floors-chain r)

  a_sum : sum (counted first n) n a ≡ sum (counted first n) n (at fs) + sum (counted first n) n (shift (at rs) n)
  a_sum = sum_eq (counted first n) n a a₀ a_is ∙ shifted_sum r counts (at fs)

  room : sum (counted first n) n a ≤ U'
  room = omega (arith, a_sum, shifts_low r counts)

  fits : Below n a b₀
  fits k h = omega (arith, a_is k h, r.fits k h)

  r' : Ready fs cs' rs n
  r' = lowered-ready r (counted first n) margin

  cap : Below n b₀ (λ _. top)
  cap = within_scale r' (lowered-rising r (counted first n) margin) cs b₀ (λ k h. refl) r.ceiling

  bs : Greatest n free b₀ b
  bs = capped_greatest n top free b₀ cap

  hi_is : (k : ℕ) → k < n → hi k ≡ shifted cs' rs n k
  hi_is =
      ceilings_are
      (record {
        ready = r;
        counts = λ k h. refl;
        floors = a_is;
        ceilings = λ k h. refl;
        chain = settled-chain n free a₀;
        greatest = bs;
        room = room;
        margin_is = omega (arith, a_sum, shifts_low r counts);
      })

  hi_sum : sum (counted first n) n hi ≡ sum (counted first n) n (at cs') + sum (counted first n) n (shift (at rs) n)
  hi_sum = sum_eq (counted first n) n hi (shifted cs' rs n) hi_is ∙ shifted_sum r counts (at cs')

  most_is : min U' (sum (counted first n) n b) + spare n first ≡ highest + sum (counted first n) n (shift (at rs) n)
  most_is = omega (arith, total_kept (counted first n) n free a₀ b₀ 0 U' top cap (λ k. omega arith) fits room, hi_sum, shifts_low r counts)

  -- no levels where the least total is above the greatest
  crossed-totals : highest < lowest → (x : ℕ → ℕ) → Levels (box fs cs rs n first L U) x → ⊥
  crossed-totals h x l =
      let s = shifted-sched r counts lowest U x (with_lowest x l) in
      let t = inward (counted first n) n free a₀ b₀ (shifted_total rs n first lowest) U' top cap (λ k. x k + shift (at rs) n k) s in
      omega (arith, most_is, shifts_low r counts, s.least, s.most, sum_le (counted first n) n (λ k. x k + shift (at rs) n k) b t.below)

  module _ (order : lowest ≤ highest) where
    abbrev fs' : List ℕ
    fs' = raised fs cs' rs n first (held n first (at cs') - lowest)

    abbrev L' : ℕ
    L' = shifted_total rs n first lowest

    reachable : L' ≤ sum (counted first n) n b
    reachable = omega (arith, most_is)

    hi_chain : Chain n free hi
    hi_chain = ceiling-chain n free (counted first n) a b (settled-chain n free a₀) bs.chain (bs.over a (settled-chain n free a₀) fits) U' room

    lo_is : (k : ℕ) → k < n → low (counted first n) n free a₀ b₀ L' U' top k ≡ shifted fs' rs n k
    lo_is =
        floors_are
        (record {
          ready = r';
          rising = lowered-rising r (counted first n) margin;
          floors = a_is;
          ceilings = hi_is;
          chain = settled-chain n free a₀;
          high-chain = hi_chain;
          reachable = omega (arith, hi_sum, shifts_low r counts);
          margin_is = omega (arith, hi_sum, shifts_low r counts);
        })

    ranges : Ranges (counted first n) n free a₀ b₀ L' U' (low (counted first n) n free a₀ b₀ L' U' top) hi (max L' (sum (counted first n) n a)) (min U' (sum (counted first n) n b))
    ranges = sufficient (counted first n) n free a₀ b₀ L' U' top cap (λ k. omega arith) fits room (omega arith) reachable

    ready-exact : Exact (box fs cs rs n first L U) (record { found = true; floors = fs'; ceilings = cs'; lowest = lowest; highest = highest })
    ready-exact =
        record {
          day = λ k h. spans_same with_lowest without_lowest (day_spans r counts lowest U k h (at fs' k) (at cs' k) (ranges.day k h) (sym (lo_is k h)) (sym (hi_is k h)));
          total = spans_same with_lowest without_lowest (total_spans r counts lowest U lowest highest ranges.total (omega (arith, a_sum, shifts_low r counts)) (sym most_is));
          floors = rw (raised_is, length-written) r.floors;
          ceilings = r'.ceilings;
          floors-past = λ k h. rw (raised_is, written-past) refl;
          ceilings-past = λ k h. written-past (lowered fs cs rs n (counted first n) margin) 0 n cs k h;
        }

-- ---- the stages of `tightened`

module _ {fs cs rs : List ℕ} {n first L U : ℕ} where
  refused : {t : Tight} → t.found ≡ false → ((x : ℕ → ℕ) → Levels (box fs cs rs n first L U) x → ⊥) → Right (box fs cs rs n first L U) t
  refused e empty = record { none = λ _. empty; exact = λ f. absurd (true≢false (sym f ∙ e)) }

  found : {t : Tight} → t.found ≡ true → Exact (box fs cs rs n first L U) t → Right (box fs cs rs n first L U) t
  found e exact = record { none = λ f. absurd (true≢false (sym e ∙ f)); exact = λ _. exact }

module _ {fs cs rs : List ℕ} {n first : ℕ} (r : Ready fs cs rs n) (counts : first < n) (L U : ℕ) where
  floors_right : held n first (at fs) ≤ U → Right (box fs cs rs n first L U) (tight_floors (box fs (lowered_all fs cs rs n (counted first n) (U - held n first (at fs))) rs n first L U))
  unfolding tight_floors
  floors_right within =
      by_order (Right (box fs cs rs n first L U)) (highest r counts L U within) (lowest r counts L U within) {t = Filter.none (box fs (lowered_all fs cs rs n (counted first n) (U - held n first (at fs))) rs n first L U)}
      (λ h. refused refl (crossed-totals r counts L U within h))
      (λ h. found refl (ready-exact r counts L U within h))

  ceilings_right : Right (box fs cs rs n first L U) (tight_ceilings (box fs cs rs n first L U))
  unfolding tight_ceilings
  ceilings_right =
      by_order (Right (box fs cs rs n first L U)) U (held n first (at fs))
      (λ h. refused refl (λ x l. omega (arith, l.most, sum_le (counted first n) n (at fs) x l.floor)))
      floors_right

module _ {fs cs rs : List ℕ} {n first L U : ℕ} where
  pub carried-least : (x : ℕ → ℕ) → Levels (box fs cs rs n first L U) x → (k : ℕ) → k < n → carried fs rs k ≤ x k
  unfolding carried
  carried-least x l zero h = l.floor 0 h
  carried-least x l (suc k) h =
      omega (arith, carried-least x l k (omega arith), rw add-one at (l.rise k (omega arith)), l.floor (suc k) h)

  -- levels over the floors are over the carried ones too
  from-carried : InBounds (box fs cs rs n first L U) → n ≤ first_crossed (carried fs rs) (at cs) n → {t : Tight} → Right (box (forwarded fs rs n) cs rs n first L U) t → Right (box fs cs rs n first L U) t
  from-carried b h {t} s =
      record {
        none = λ e x l. s.none e x (up x l);
        exact = λ e. let z = s.exact e in
            record {
              day = λ k l. spans_same up down (z.day k l);
              total = spans_same up down z.total;
              floors = z.floors;
              ceilings = z.ceilings;
              floors-past = λ k l. z.floors-past k l ∙ written-past (carried fs rs) 0 n fs k l;
              ceilings-past = z.ceilings-past;
            };
      }
    where
      up : (x : ℕ → ℕ) → Levels (box fs cs rs n first L U) x → Levels (box (forwarded fs rs n) cs rs n first L U) x
      up x l = rebound l (λ k u. omega (arith, forwarded_at b h k u, carried-least x l k u)) l.ceiling l.least l.most

      down : (x : ℕ → ℕ) → Levels (box (forwarded fs rs n) cs rs n first L U) x → Levels (box fs cs rs n first L U) x
      down x l = rebound l (λ k u. omega (arith, forwarded_at b h k u, carried-above fs rs k, l.floor k u)) l.ceiling l.least l.most

pub right : {b : Box} → InBounds b → Right b (tightened b)
unfolding tightened
right {b} h =
    by_order (Right b) r b.days
    (λ l. refused refl (λ x levels. omega (arith, (crossing (carried b.floors b.rises) (at b.ceilings) b.days).here l, carried-least x levels r l, levels.ceiling r l)))
    (λ l. from-carried h l (ceilings_right (ready h l) h.counts b.lowest b.highest))
  where
    r : ℕ
    r = first_crossed (carried b.floors b.rises) (at b.ceilings) b.days

pub none : {b : Box} → InBounds b → (tightened b).found ≡ false → (x : ℕ → ℕ) → Levels b x → ⊥
none h = (right h).none

pub exact : {b : Box} → InBounds b → (tightened b).found ≡ true → Exact b (tightened b)
exact h = (right h).exact
