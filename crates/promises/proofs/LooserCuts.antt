-- A cut that is looser than the present range is accepted, and changes nothing.
use Rattle.std.specs.Prelude.{Some}
use mathlib.Core.Path.{◌≡◌, refl, sym, ap, ◌∙◌}
use mathlib.Core.Bool.{Bool, true, false, true≢false}
use mathlib.Core.Logic.{◌⊎◌, inl, inr}
use mathlib.Core.List.Memᴰ
use mathlib.Core.List.{List, [], ◌∷◌, ◌++◌, Memᴰ}
use Prim.Native.Nat.{ℕ, ◌≤◌}
use lib.IntN.{ℤ}
use lib.Dec.{eqb}
use lib.ListN.{length}
use borrow.Author.Tests.{le-ltb, eq-eqb}
use Rattle.theory_lists.specs.Sum.{at}
use Rattle.session_changed.specs.Changes.{differs, lost}
use Rattle.session_order.specs.Order.{days_where}
use Rattle.session_order.proofs.Days.{days-none}
use Rattle.session_order.proofs.Settled.{settled-length}
use Rattle.base_codes.proofs.Order.{≤ℤ_trans}
use Rattle.session.specs.Profile.{Profile}
use Rattle.session.specs.Opening.{opened, ranges_of}
use Rattle.session.proofs.Entered.{entered}
use Rattle.session.specs.declared.Ranges.{Ranges}
use Rattle.session.specs.declared.Session.{Session}
use Rattle.session_cuts.specs.declared.Cut.{Cut}
use Rattle.session_cuts.specs.declared.Cut.TheVariants.{DayFloor, DayCeiling, TotalFloor, TotalCeiling}
use Rattle.session_cutting.specs.Cutting.{early_cutting, clipped, retightened, changed_days, after_cut, after_numbered}
use Rattle.session_cutting.proofs.Laws.{earlier_none, accepted}
use Rattle.promises.specs.Cuts.{WellFormed, Keeps, Looser, CutCall, ValidIn, Kept}
use Rattle.promises.specs.Demands.{Exact, LooserCuts}
use Rattle.promises.proofs.Clip.{well_formed}
use Rattle.promises.proofs.Demand2.{unrefused}
use Rattle.promises.proofs.Demand3.{demand_3, same-session}
use Rattle.promises.proofs.Fold.{known_same}
use Rattle.promises.proofs.After.{after_append}
use Rattle.promises.proofs.Reached.{after_reached}

module _ (p : Profile) (hs : List CutCall) (c : Cut) (room : ℕ) where
  abbrev h : CutCall
  h = record { cut = Some c; room = room }

  -- schedules that keep the cut too keep the longer list, and the other way round
  kept_more : (x : List ℤ) → Keeps p c x → Kept p hs x → Kept p (hs ++ h ∷ []) x
  kept_more x keep k = record { schedule = k.schedule; keeps = λ e v. go e v (Memᴰ.append_cases hs v.member) }
    where
      go : (e : Cut) (v : ValidIn p (hs ++ h ∷ []) e) → Memᴰ v.handed hs ⊎ Memᴰ v.handed (h ∷ []) → Keeps p e x
      go e v (inl m) = k.keeps e (record { handed = v.handed; member = m; valid = v.valid })
      go e v (inr m) =
          let same : c ≡ e = known_same c e (rw (Memᴰ.eq_of_singleton m) at v.valid.known) in
          rw same at keep

  kept_less : (x : List ℤ) → Kept p (hs ++ h ∷ []) x → Kept p hs x
  kept_less x k = record { schedule = k.schedule; keeps = λ e v. k.keeps e (record { handed = v.handed; member = Memᴰ.append_left (h ∷ []) v.member; valid = v.valid }) }

-- ---- the answer

no_changes : (n : ℕ) (r : Ranges) → length (changed_days n r r) ≡ 0
no_changes n r =
    settled-length (lost r.floors r.ceilings r.floors r.ceilings) (days_where (differs r.floors r.ceilings r.floors r.ceilings) n)
    ∙ days-none _ (λ k. rw (eq-eqb (at r.floors k) (at r.floors k) refl, eq-eqb (at r.ceilings k) (at r.ceilings k) refl) refl) n

unchanged : (s : Session) (c : Cut) (room : ℕ) → eqb (early_cutting s c room) 0 ≡ true → s.spent ≡ false → (after_cut s c room).session ≡ s
    → after_cut s c room ≡ record { answer = record { refusal = 0; changed = 0 }; session = s }
unchanged s c room early unspent same = go (retightened s (clipped s.present c)).found refl
  where
    go : (b : Bool) → (retightened s (clipped s.present c)).found ≡ b → after_cut s c room ≡ record { answer = record { refusal = 0; changed = 0 }; session = s }
    go true f =
        let e = accepted s c room early in
        let session = rw (e, f) at same in
        let count : length (changed_days s.days s.present (ranges_of (retightened s (clipped s.present c)))) ≡ 0 =
        ap (λ (r : Ranges). length (changed_days s.days s.present r)) (ap (λ (t : Session). t.present) session) ∙ no_changes s.days s.present in
        e ∙ rw f (λ i. record { answer = record { refusal = 0; changed = count i }; session = session i })
    go false f = absurd (true≢false (ap (λ (t : Session). t.spent) (rw (accepted s c room early, f) at same) ∙ unspent))

-- ---- every schedule that keeps the list keeps it

module _ (p : Profile) (hs : List CutCall) (s : Session) (w : Exact p (Kept p hs) s) where
  keeps-looser : (c : Cut) → WellFormed p c → Looser s c → (x : List ℤ) → Kept p hs x → Keeps p c x
  keeps-looser (DayFloor day value) f l x k = ≤ℤ_trans _ _ _ l ((w.each day f.0).inside x k).0
  keeps-looser (DayCeiling day value) f l x k = ≤ℤ_trans _ _ _ ((w.each day f.0).inside x k).1 l
  keeps-looser (TotalFloor day value) f l x k = ≤ℤ_trans _ _ _ l (w.sum.inside x k).0
  keeps-looser (TotalCeiling day value) f l x k = ≤ℤ_trans _ _ _ (w.sum.inside x k).1 l

pub looser-cuts : LooserCuts
unfolding after_numbered
looser-cuts p z hs s e unspent c f l room long =
    let u = unrefused p z in
    let d = entered p u.early in
    let w : Exact p (Kept p hs) s = rw e ((demand_3 p z hs).exact (rw e at unspent)) in
    let same = same-session p d u.found (hs ++ h p hs c room ∷ []) hs (λ x. (kept_less p hs c room x, λ k. kept_more p hs c room x (keeps-looser p hs s w c f l x k) k)) in
    let session : (after_cut s c room).session ≡ s = rw e (sym (after_append (opened p).session hs (h p hs c room ∷ [])) ∙ rw (← u.session) at same) in
    let days = (after_reached p z d hs s e unspent).days in
    unchanged s c room (earlier_none s c room (rw days ((well_formed p c).1 f)) (rw days (le-ltb room p.days long)) unspent) unspent session
