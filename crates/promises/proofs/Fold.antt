-- Demand 3 over levels: a session that is right for a set of levels is, after a list of cuts, right for those that also keep every valid cut.
use Rattle.std.specs.Prelude.{None, Option, Some}
use mathlib.Core.Path.{◌≡◌, refl, sym, ◌∙◌}
use mathlib.Core.Logic.{◌⊎◌, inl, inr}
use mathlib.Core.Bool.{Bool, true, false, true≢false}
use mathlib.Core.List.Memᴰ
use mathlib.Core.List.{List, [], ◌∷◌, Memᴰ}
use Prim.Native.Nat.{ℕ}
use native.Mathlib.Omega.{arith}
use lib.Dec.{eqb}
use borrow.Author.Tests.{le-ltb, ltb-false}
use Rattle.theory_lists.specs.Sum.{at}
use Rattle.theory_method.specs.Filter.{Tight}
use Rattle.theory_method.proofs.Exact.{none, exact, tighter, looser, exact_in_bounds}
use Rattle.theory_chains.specs.Spans.{spans_same}
use Rattle.session.specs.Opening.{ranges_of}
use Rattle.session.specs.Showing.{Fits}
use Rattle.session.proofs.Within.{Within}
use Rattle.session.specs.Profile.{Profile}
use Rattle.session.specs.declared.Ranges.{Ranges}
use Rattle.session.specs.declared.Session.{Session}
use Rattle.session_cuts.specs.declared.Cut.{Cut}
use Rattle.session_cutting.specs.Cutting.{malformed, early_cutting, clipped, retightened, tightened_to, after_cut, after_numbered}
use Rattle.session_cutting.proofs.Laws.{clipped_in_bounds, earlier_none, passed, refused-same, accepted}
use Rattle.promises.specs.Cuts.{WellFormed, CutCall, Valid, ValidIn, after}
use Rattle.promises.proofs.Clip.{KeepsLevels, InArrays, well_formed, to_clipped, of_clipped, clipped-past}
use Rattle.promises.proofs.Right.{Narrowed, unspent, spent, Right, narrowed, exhausted, right_same}

pub known_same : (c d : Cut) → Some c ≡ Some d → c ≡ d
known_same c d e = cc

unknown_known : (c : Cut) → None ≡ Some c → ⊥
unknown_known c e = let z : ◌≡◌ {A = ℕ} 0 1 = cc in absurd (omega arith)

module _ (p : Profile) (rs : List ℕ) (o : Ranges) where
  abbrev RightFor : ((ℕ → ℕ) → Type 0) → Session → Type 0
  RightFor = Right p.days p.first rs o

  abbrev unspent_with : Ranges → Session
  unspent_with = unspent p.days p.first rs o

  abbrev spent_session : Session
  spent_session = spent p.days p.first rs o

  -- a well-formed cut, clipped and tightened
  module _ (S : (ℕ → ℕ) → Type 0) (r : Ranges) (w : Narrowed p.days p.first rs o S r) (c : Cut) (formed : malformed p.days c ≡ 0) where
    abbrev T : (ℕ → ℕ) → Type 0
    T x = S x × KeepsLevels p.days p.first c x

    abbrev t : Tight
    t = retightened (unspent_with r) (clipped r c)

    well : WellFormed p c
    well = (well_formed p c).0 formed

    fits : Fits rs p.days p.first (clipped r c)
    fits = clipped_in_bounds rs p.days p.first r c w.bounds formed

    arrays : InArrays p r
    arrays = record { few = w.bounds.most; floors = w.bounds.floors; ceilings = w.bounds.ceilings }

    to : (x : ℕ → ℕ) → T x → Within rs p.days p.first (clipped r c) x
    to x k = to_clipped p rs r arrays c well x (w.within x k.0) k.1

    of : (x : ℕ → ℕ) → Within rs p.days p.first (clipped r c) x → T x
    of x l = let z = of_clipped p rs r arrays c well x l in (w.only x z.0, z.1)

    cut_right : RightFor T (tightened_to (unspent_with r) t).session
    cut_right = go t.found refl
      where
        go : (b : Bool) → t.found ≡ b → RightFor T (tightened_to (unspent_with r) t).session
        go true e =
            let z = exact fits e in
            rw e (narrowed (ranges_of t) refl (record {
              bounds = exact_in_bounds z fits;
              within = λ x k. tighter z x (to x k);
              only = λ x l. of x (looser z x l);
              day = λ k h. spans_same to of (z.day k h);
              total = spans_same to of z.total;
              floors-kept = λ k h. z.floors-past k h ∙ (clipped-past p r c well k h).0 ∙ w.floors-kept k h;
              ceilings-kept = λ k h. z.ceilings-past k h ∙ (clipped-past p r c well k h).1 ∙ w.ceilings-kept k h;
            }))
        go false e = rw e (exhausted refl (λ x k. none fits e x (to x k)))

  -- ---- one cut as it is handed over

  -- the levels of S that keep the valid cut, if there is one
  abbrev pub Keeping : ((ℕ → ℕ) → Type 0) → CutCall → (ℕ → ℕ) → Type 0
  Keeping S h x = S x × ((c : Cut) → Valid p h c → KeepsLevels p.days p.first c x)

  module _ (S : (ℕ → ℕ) → Type 0) where
    -- where no cut is valid, S is kept as it is
    none-valid : (h : CutCall) {s : Session} → ((c : Cut) → Valid p h c → ⊥) → RightFor S s → RightFor (Keeping S h) s
    none-valid h invalid = right_same (λ x k. (k, λ c v. absurd (invalid c v))) (λ x k. k.0)

    module _ (c : Cut) (room : ℕ) where
      abbrev h : CutCall
      h = record { cut = Some c; room = room }

      -- a valid cut of an unspent session is not refused before 8
      unrefused : (r : Ranges) (d : Cut) → Valid p h d → eqb (early_cutting (unspent_with r) c room) 0 ≡ true
      unrefused r d v =
          let same : c ≡ d = known_same c d v.known in
          earlier_none (unspent_with r) c room ((well_formed p c).1 (rw same v.formed)) (le-ltb room p.days v.roomy) refl

      unspent-step : (r : Ranges) → Narrowed p.days p.first rs o S r → RightFor (Keeping S h) (after_cut (unspent_with r) c room).session
      unspent-step r w = go (eqb (early_cutting (unspent_with r) c room) 0) refl
        where
          go : (b : Bool) → eqb (early_cutting (unspent_with r) c room) 0 ≡ b → RightFor (Keeping S h) (after_cut (unspent_with r) c room).session
          go true e =
              let q = passed (unspent_with r) c room e in
              let v : Valid p h c = record { known = refl; formed = (well_formed p c).0 q.formed; roomy = ltb-false room p.days q.roomy } in
              rw (accepted (unspent_with r) c room e)
              (right_same
              (λ x k. (k.0, λ d u. let same : d ≡ c = sym (known_same c d u.known) in rw same k.1))
              (λ x k. (k.0, k.1 c v))
              (cut_right S r w c q.formed))
          go false e = rw (refused-same (unspent_with r) c room e) (none-valid h (λ d u. true≢false (sym (unrefused r d u) ∙ e)) (narrowed r refl w))

      spent-step : ((x : ℕ → ℕ) → S x → ⊥) → RightFor (Keeping S h) (after_cut spent_session c room).session
      spent-step empty = go (eqb (early_cutting spent_session c room) 0) refl
        where
          go : (b : Bool) → eqb (early_cutting spent_session c room) 0 ≡ b → RightFor (Keeping S h) (after_cut spent_session c room).session
          go true e = absurd (true≢false (passed spent_session c room e).unspent)
          go false e = rw (refused-same spent_session c room e) (exhausted refl (λ x k. empty x k.0))

    step : {s : Session} (t : Option Cut) (room : ℕ) → RightFor S s → RightFor (Keeping S (record { cut = t; room = room })) (after_numbered s t room).session
    unfolding after_numbered
    step (Some c) room (narrowed r e w) = rw e (unspent-step c room r w)
    step (Some c) room (exhausted e empty) = rw e (spent-step c room empty)
    step None room z = none-valid (record { cut = None; room = room }) (λ c v. unknown_known c v.known) z

  -- ---- whole lists

  -- the levels of S that keep every valid cut of the list
  abbrev pub KeepingAll : ((ℕ → ℕ) → Type 0) → List CutCall → (ℕ → ℕ) → Type 0
  KeepingAll S hs x = S x × ((c : Cut) → ValidIn p hs c → KeepsLevels p.days p.first c x)

  first_or_later : (h : CutCall) (hs : List CutCall) (x : ℕ → ℕ) → ((c : Cut) → Valid p h c → KeepsLevels p.days p.first c x) → ((c : Cut) → ValidIn p hs c → KeepsLevels p.days p.first c x)
      → (c : Cut) → ValidIn p (h ∷ hs) c → KeepsLevels p.days p.first c x
  first_or_later h hs x first later c v = go (Memᴰ.cases_cons v.member)
    where
      go : (v.handed ≡ h) ⊎ Memᴰ v.handed hs → KeepsLevels p.days p.first c x
      go (inl e) = first c (rw e at v.valid)
      go (inr m) = later c (record { handed = v.handed; member = m; valid = v.valid })

  pub fold : (S : (ℕ → ℕ) → Type 0) (s : Session) (hs : List CutCall) → RightFor S s → RightFor (KeepingAll S hs) (after s hs)
  fold S s [] z = right_same (λ x k. (k, λ c v. absurd (Memᴰ.not-nil v.member))) (λ x k. k.0) z
  fold S s (h ∷ hs) z =
      right_same
      (λ x k. (k.0.0, first_or_later h hs x k.0.1 k.1))
      (λ x k. ((k.0, λ c v. k.1 c (record { handed = h; member = Memᴰ.head refl; valid = v })), λ c v. k.1 c (record { handed = v.handed; member = Memᴰ.tail v.member; valid = v.valid })))
      (fold (Keeping S h) (after_numbered s h.cut h.room).session hs (step S h.cut h.room z))
