-- Sessions that are right for a set of levels, whatever was cut.
use mathlib.Core.Path.{◌≡◌, sym, ◌∙◌, ap}
use mathlib.Core.Bool.{true, false}
use mathlib.Core.List.{List}
use Prim.Native.Nat.{ℕ, ◌≤◌, ◌<◌}
use native.Mathlib.Nat.{le_refl}
use native.Mathlib.Omega.{arith}
use native.Mathlib.Decide.{dec_lt}
use lib.Seq.{ext_get_or}
use Rattle.theory_lists.specs.Sum.{at}
use Rattle.theory_method.specs.Filter.{held}
use Rattle.theory_chains.specs.Spans.{NatSpans, spans_same, spans_least, spans_most}
use Rattle.session.specs.Showing.{Fits}
use Rattle.session.proofs.Within.{Within}
use Rattle.session.specs.declared.Ranges.{Ranges}
use Rattle.session.specs.declared.Session.{Session}

-- ranges that are exact for S, and hold exactly the levels of S; past the last day they are as opened
pub record Narrowed (n first : ℕ) (rs : List ℕ) (o : Ranges) (S : (ℕ → ℕ) → Type 0) (r : Ranges) : Type 0 where
  pub bounds : Fits rs n first r
  pub within : (x : ℕ → ℕ) → S x → Within rs n first r x
  pub only : (x : ℕ → ℕ) → Within rs n first r x → S x
  pub day : (k : ℕ) → k < n → NatSpans S (λ x. x k) (at r.floors k) (at r.ceilings k)
  pub total : NatSpans S (held n first) r.lowest r.highest
  pub floors-kept : (k : ℕ) → n ≤ k → at r.floors k ≡ at o.floors k
  pub ceilings-kept : (k : ℕ) → n ≤ k → at r.ceilings k ≡ at o.ceilings k

abbrev pub unspent : ℕ → ℕ → List ℕ → Ranges → Ranges → Session
unspent n first rs o r = record { days = n; first = first; rises = rs; opened = o; present = r; spent = false }

abbrev pub spent : ℕ → ℕ → List ℕ → Ranges → Session
spent n first rs o = record { days = n; first = first; rises = rs; opened = o; present = o; spent = true }

-- not spent, with ranges for S; or spent, and S empty
pub data Right (n first : ℕ) (rs : List ℕ) (o : Ranges) (S : (ℕ → ℕ) → Type 0) (s : Session) : Type 0 where
  narrowed : (r : Ranges) → s ≡ unspent n first rs o r → Narrowed n first rs o S r → Right n first rs o S s
  exhausted : s ≡ spent n first rs o → ((x : ℕ → ℕ) → S x → ⊥) → Right n first rs o S s

module _ {n first : ℕ} {rs : List ℕ} {o : Ranges} where
  pub right_same : {S T : (ℕ → ℕ) → Type 0} {s : Session} → ((x : ℕ → ℕ) → S x → T x) → ((x : ℕ → ℕ) → T x → S x) → Right n first rs o S s → Right n first rs o T s
  right_same to of (narrowed r e w) = narrowed r e (record {
    bounds = w.bounds;
    within = λ x t. w.within x (of x t);
    only = λ x l. to x (w.only x l);
    day = λ k h. spans_same of to (w.day k h);
    total = spans_same of to w.total;
    floors-kept = w.floors-kept;
    ceilings-kept = w.ceilings-kept;
  })
  right_same to of (exhausted e h) = exhausted e (λ x t. h x (of x t))

-- ---- no other session is right for the set

module _ {n first : ℕ} {rs : List ℕ} {o : Ranges} {S : (ℕ → ℕ) → Type 0} where
  ranges-same : {r q : Ranges} → Narrowed n first rs o S r → Narrowed n first rs o S q → r ≡ q
  ranges-same {r} {q} a b =
      let floors : r.floors ≡ q.floors = ext_get_or 0 r.floors q.floors (a.bounds.floors ∙ sym b.bounds.floors) (λ k h. floor k (dec_lt k n)) in
      let ceilings : r.ceilings ≡ q.ceilings = ext_get_or 0 r.ceilings q.ceilings (a.bounds.ceilings ∙ sym b.bounds.ceilings) (λ k h. ceiling k (dec_lt k n)) in
      let least : r.lowest ≡ q.lowest = spans_least a.total b.total in
      let most : r.highest ≡ q.highest = spans_most a.total b.total in
      λ i. record { floors = floors i; ceilings = ceilings i; lowest = least i; highest = most i }
    where
      floor : (k : ℕ) → Dec (k < n) → at r.floors k ≡ at q.floors k
      floor k (yes h) = spans_least (a.day k h) (b.day k h)
      floor k (no h) = a.floors-kept k (omega arith) ∙ sym (b.floors-kept k (omega arith))

      ceiling : (k : ℕ) → Dec (k < n) → at r.ceilings k ≡ at q.ceilings k
      ceiling k (yes h) = spans_most (a.day k h) (b.day k h)
      ceiling k (no h) = a.ceilings-kept k (omega arith) ∙ sym (b.ceilings-kept k (omega arith))

  -- some levels are in S where ranges are exact for it
  pub some : {r : Ranges} → Narrowed n first rs o S r → (x : ℕ → ℕ) × S x
  some {r} a = let z = a.total.taken r.lowest (le_refl r.lowest) a.total.some in (z.0, z.1)

  pub right_one : {s t : Session} → Right n first rs o S s → Right n first rs o S t → s ≡ t
  right_one (narrowed r e a) (narrowed q f b) = e ∙ ap (unspent n first rs o) (ranges-same a b) ∙ sym f
  right_one (narrowed r e a) (exhausted f h) = let z = some a in absurd (h z.0 z.1)
  right_one (exhausted e h) (narrowed q f b) = let z = some b in absurd (h z.0 z.1)
  right_one (exhausted e h) (exhausted f g) = e ∙ sym f
