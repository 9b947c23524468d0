-- Widths left and counted day by day; and what a cut leaves of a session in arrays, by what its tests found.
use Rattle.std.specs.Prelude.{Option, Some, Ok, Err}
use Rattle.refusals.specs.declared.Refusal.{Refusal}
use Rattle.refusals.specs.declared.Refusal.TheVariants.{NoSchedule}
use Rattle.refusals.specs.Number.{refusal_number}
use Prim.Native.Nat.{ℕ, ◌+◌, ◌-◌, ◌≤◌, ◌<◌}
use mathlib.Core.Path.{◌≡◌, refl, ap, sym, subst, ◌∙◌}
use mathlib.Core.Bool.{Bool, true, false, cond, true≢false}
use mathlib.Core.List.{List, [], ◌∷◌, ◌++◌}
use native.Mathlib.Numerals.{add-one}
use native.Mathlib.Omega.{arith}
use lib.Dec.{ltb}
use lib.ListN.{length, set, length-append}
use Rattle.theory_lists.specs.Sum.{at}
use Rattle.theory_lists.specs.Filled.{Filled, filled_none, filled_more, filled-all}
use Rattle.theory_lists.specs.Written.{written, length-written, written_below, written-past}
use Rattle.session_order.specs.Order.{days_where, losers}
use Rattle.session_order.proofs.Days.{days_few, days-same}
use Rattle.session_order.proofs.Settled.{settled-length}
use Rattle.session_changed.specs.Changes.{lost}
use Rattle.session_changed.proofs.Laws.{narrowed-losers, narrowed_same}
use Rattle.theory_method.specs.Filter.{InBounds, Tight, tightened}
use Rattle.tighten_filtering.specs.Boxed.{boxed}
use Rattle.session.specs.Opening.{ranges_of}
use Rattle.session.specs.Showing.{box_of, SessionInBounds}
use Rattle.session.specs.declared.Session.{Session}
use Rattle.session_cuts.specs.declared.Cut.{Cut}
use Rattle.session_cutting.specs.Cutting.{malformed, clipped, retightened, changed_days, spend, refusing, tightened_to, after_numbered}
use Rattle.session_cutting.proofs.Laws.{tightened_narrows}
use Rattle.session_cutting.proofs.Stages.{again-found, again-none, cut-taken, numbered-known}
use Rattle.session_steps.specs.Steps.{width, Holds, Stepped}
use Rattle.session_steps.specs.declared.Step.{Step}

-- ---- widths

days-count : (test : ℕ → Bool) (n : ℕ) → length (days_where test (n + 1)) ≡ cond (test n) (length (days_where test n) + 1) (length (days_where test n))
unfolding days_where
days-count test n = rw (add-one n) (go (test n))
  where
    go : (b : Bool) → length (cond b (days_where test n ++ n ∷ []) (days_where test n)) ≡ cond b (length (days_where test n) + 1) (length (days_where test n))
    go true = length-append (days_where test n) (n ∷ [])
    go false = refl

-- what the width of day k is less than in ws
abbrev pub fallen : List ℕ → List ℕ → List ℕ → ℕ → ℕ
fallen fs cs ws k = at ws k - width fs cs k

-- the widths of the first k days are left, and those that fell are counted
pub record Tallied (fs cs : List ℕ) (n : ℕ) (ws : List ℕ) (k count : ℕ) (out : List ℕ) : Type 0 where
  pub left : Filled (width fs cs) n k ws out
  pub counted : count ≡ length (losers (fallen fs cs ws) k)

module _ {fs cs : List ℕ} {n : ℕ} {ws : List ℕ} where
  pub tallied-none : Tallied fs cs n ws 0 0 ws
  unfolding days_where
  tallied-none = record { left = filled_none; counted = refl }

  pub tallied_few : {k count : ℕ} {out : List ℕ} → Tallied fs cs n ws k count out → count ≤ n
  tallied_few {k} h = omega (arith, h.counted, h.left.most, days_few (λ i. ltb 0 (fallen fs cs ws i)) k)

  pub tallied-more : {k count count' before after : ℕ} {out : List ℕ} → Tallied fs cs n ws k count out → k < n → before ≡ at out k → after ≡ width fs cs k
      → count' ≡ cond (ltb 0 (before - after)) (count + 1) count → Tallied fs cs n ws (k + 1) count' (set out k after)
  tallied-more {k} {count} {count'} {before} {after} {out} h u b a e =
      let stands : at out k ≡ at ws k = rw h.left.made (written-past (width fs cs) 0 k ws k (omega arith)) in
      let falls : before - after ≡ fallen fs cs ws k = rw (b, stands, a) refl in
      record {
        left = filled_more h.left u a;
        counted = e ∙ ap (λ x. cond (ltb 0 x) (count + 1) count) falls
            ∙ ap (λ m. cond (ltb 0 (fallen fs cs ws k)) (m + 1) m) h.counted
            ∙ sym (days-count (λ i. ltb 0 (fallen fs cs ws i)) k);
      }

  pub tallied-all : {k count : ℕ} {out : List ℕ} → Tallied fs cs n ws k count out → n ≤ k → (count ≡ length (losers (fallen fs cs ws) n)) × (out ≡ written (width fs cs) n ws)
  tallied-all {k} h u = let e : k ≡ n = omega (arith, h.left.most) in (rw e at h.counted, filled-all h.left u)

-- ---- a cut, by what its tests found

-- an unspent session is cut by a well-formed cut, and k is what clipping and tightening leave
pub record Cuts (s : Session) (t : Option Cut) (k : Tight) : Type 0 where
  pub cut : Cut
  pub bounds : SessionInBounds s
  pub known : t ≡ Some cut
  pub formed : malformed s.days cut ≡ 0
  pub unspent : s.spent ≡ false
  pub tight : k ≡ retightened s (clipped s.present cut)

module _ {s : Session} {p : Step} {rs fs cs ws : List ℕ} (h : Holds s p rs fs cs ws) where
  -- a refusal other than 8
  pub stays : (t : Option Cut) (r : Refusal) {q : Step} → refusing (refusal_number r) s ≡ after_numbered s t s.days
      → q ≡ record { numbers = p.numbers; spent = p.spent; answer = Err r } → Stepped (after_numbered s t s.days) q rs fs cs ws
  stays t r {q} a e =
      subst (λ b. Stepped b q rs fs cs ws) a
      (rw e
      (record {
        answer = refl;
        holds = record { days = h.days; first = h.first; rises-held = h.rises-held; mark = h.mark; present = h.present; wide = h.wide; widths_held = h.widths_held };
      }))

  -- the arrays hold ranges in bounds
  pub held-bounds : SessionInBounds s → s.spent ≡ false → InBounds (boxed fs cs rs p.numbers)
  held-bounds b u = let e = h.present u in rw (h.rises-held, h.days, h.first, ap (λ r. r.floors) e, ap (λ r. r.ceilings) e, ap (λ r. r.lowest) e, ap (λ r. r.highest) e) b.present

  -- what tightening makes of them
  pub held_tight : (c : Cut) → s.spent ≡ false → {k : Tight}
      → k ≡ tightened (box_of rs p.numbers.days p.numbers.first (clipped (record { floors = fs; ceilings = cs; lowest = p.numbers.lowest; highest = p.numbers.highest }) c))
      → k ≡ retightened s (clipped s.present c)
  held_tight c u e = rw (h.rises-held, h.days, h.first, h.present u) at e

  module _ (t : Option Cut) {k : Tight} (d : Cuts s t k) where
    taken : tightened_to s (retightened s (clipped s.present d.cut)) ≡ after_numbered s t s.days
    taken = cut-taken s d.cut s.days d.formed (omega arith) d.unspent ∙ numbered-known s s.days refl d.known

    -- 8 spends
    pub ends : k.found ≡ false → {q : Step} {fs' cs' : List ℕ} → q ≡ record { numbers = p.numbers; spent = true; answer = Err NoSchedule }
        → Stepped (after_numbered s t s.days) q rs fs' cs' ws
    ends none {q} {fs'} {cs'} e =
        subst (λ b. Stepped b q rs fs' cs' ws) (again-none s d.cut d.tight none ∙ taken)
        (rw e
        (record {
          answer = refl;
          holds = record { days = h.days; first = h.first; rises-held = h.rises-held; mark = refl; present = λ u. absurd (true≢false u); wide = h.wide; widths_held = λ u. absurd (true≢false u) };
        }))

    -- the days whose widths fell are counted, and all widths left
    abbrev Counted : ℕ → List ℕ → Type 0
    Counted count ws' = (count ≡ length (losers (fallen k.floors k.ceilings ws) p.numbers.days)) × (ws' ≡ written (width k.floors k.ceilings) p.numbers.days ws)

    -- those days are the ones that changed
    counts : k.found ≡ true → {count : ℕ} → count ≡ length (losers (fallen k.floors k.ceilings ws) p.numbers.days)
        → count ≡ length (changed_days s.days s.present (ranges_of k))
    counts some {count} e =
        let loss : ℕ → ℕ = lost s.present.floors s.present.ceilings k.floors k.ceilings in
        let r = h.present d.unspent in
        let same : (i : ℕ) → i < s.days → fallen k.floors k.ceilings ws i ≡ loss i =
        λ i u. ap (λ x. x - width k.floors k.ceilings i) (h.widths_held d.unspent i u ∙ ap (λ o. width o.floors o.ceilings i) r) in
        let few : count ≡ length (losers (fallen k.floors k.ceilings ws) s.days) = rw h.days at e in
        let narrows = narrowed_same (tightened_narrows s d.cut d.bounds d.formed d.tight some) in
        few
        ∙ ap length (days-same (λ i. ltb 0 (fallen k.floors k.ceilings ws i)) (λ i. ltb 0 (loss i)) s.days (λ i u. ap (ltb 0) (same i u)))
        ∙ sym (settled-length loss (losers loss s.days))
        ∙ ap length (sym (narrowed-losers narrows))

    -- otherwise the arrays hold the ranges that are left
    pub goes_on : k.found ≡ true → {count : ℕ} {ws' : List ℕ} → Counted count ws'
        → Stepped (after_numbered s t s.days)
        (record {
          numbers = record { days = p.numbers.days; first = p.numbers.first; lowest = k.lowest; highest = k.highest };
          spent = false;
          answer = Ok count;
        })
        rs k.floors k.ceilings ws'
    goes_on some {count} {ws'} e =
        let q : Step = record {
          numbers = record { days = p.numbers.days; first = p.numbers.first; lowest = k.lowest; highest = k.highest };
          spent = false;
          answer = Ok count;
        } in
        let few : p.numbers.days ≤ length ws = omega (arith, h.days, h.wide, d.bounds.present.most) in
        let f : ℕ → ℕ = width k.floors k.ceilings in
        subst (λ b. Stepped b q rs k.floors k.ceilings ws') (again-found s d.cut d.tight some (counts some e.0) ∙ taken)
        (record {
          answer = refl;
          holds = record {
            days = h.days;
            first = h.first;
            rises-held = h.rises-held;
            mark = sym d.unspent;
            present = λ u. refl;
            wide = ap length e.1 ∙ length-written f p.numbers.days ws ∙ h.wide;
            widths_held = λ u i l. ap (λ x. at x i) e.1 ∙ written_below f 0 p.numbers.days ws i (omega (arith, h.days)) few;
          };
        })
