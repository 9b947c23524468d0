-- Every session that came from opening and cuts is one that encoding keeps.
use Rattle.std.specs.Prelude.{None, Option, Some}
use mathlib.Core.Path.{◌≡◌, refl, ◌∙◌}
use mathlib.Core.Bool.{Bool, true, false}
use mathlib.Core.List.{List}
use Prim.Native.Nat.{ℕ, ◌-◌, ◌≤◌}
use native.Mathlib.Omega.{arith}
use lib.IntN.{ℤ}
use lib.Dec.{eqb}
use lib.ListN.{get_or-replicate}
use Rattle.limits.specs.Limits.{lowest_point, lowest_rise}
use Rattle.theory_lists.specs.Sum.{at}
use Rattle.theory_lists.specs.Written.{written-past}
use Rattle.base_codes.specs.Code.{code, on}
use Rattle.theory_method.specs.Filter.{zeros}
use Rattle.theory_method.proofs.Exact.{exact}
use Rattle.session.specs.Profile.{Profile}
use Rattle.session.specs.Opening.{opened, codes, narrowed}
use Rattle.session.proofs.Entered.{entered, codes-bounds}
use Rattle.session.proofs.SessionBounds.{opened_in_bounds}
use Rattle.session.specs.declared.Session.{Session}
use Rattle.session_cuts.specs.declared.Cut.{Cut}
use Rattle.session_cutting.specs.Cutting.{early_cutting, clipped, retightened, after_cut, after_numbered}
use Rattle.session_cutting.proofs.Laws.{passed, accepted, refused-same, clipped_in_bounds, cut_in_bounds}
use Rattle.promises.proofs.Clip.{well_formed, clipped-past}
use Rattle.promises.proofs.Demand2.{unrefused}
use Rattle.promises.specs.Schedules.{present_profile}
use Rattle.c_layout.specs.Storing.{Padded, Storable}

codes_padded : (low : ℤ) (zs : List ℤ) (m n : ℕ) → m ≤ n → Padded n (codes low zs m)
codes_padded low zs m n h k u l = written-past (λ j. code low (on zs j)) 0 m zeros k (omega arith) ∙ get_or-replicate {A = ℕ} 512 k 0 0 l

pub opened_storable : (p : Profile) → (opened p).refusal ≡ 0 → Storable (opened p).session
opened_storable p z =
    let u = unrefused p z in
    let t = exact (codes-bounds p (entered p u.early)) u.found in
    let floors : Padded p.days (narrowed p).floors = λ k h l. t.floors-past k h ∙ codes_padded lowest_point p.floors p.days p.days (omega arith) k h l in
    let ceilings : Padded p.days (narrowed p).ceilings = λ k h l. t.ceilings-past k h ∙ codes_padded lowest_point p.ceilings p.days p.days (omega arith) k h l in
    let bounds = rw u.session at (opened_in_bounds p) in
    rw u.session
    (record { bounds = bounds; rises = codes_padded lowest_rise p.rises (p.days - 1) p.days (omega arith); opened = (floors, ceilings); present = (floors, ceilings) })

cut_storable : (s : Session) (c : Cut) (room : ℕ) → Storable s → Storable (after_cut s c room).session
cut_storable s c room h = go (eqb (early_cutting s c room) 0) (retightened s (clipped s.present c)).found refl refl
  where
    go : (early found : Bool) → eqb (early_cutting s c room) 0 ≡ early → (retightened s (clipped s.present c)).found ≡ found → Storable (after_cut s c room).session
    go true true e f =
        let formed = (passed s c room e).formed in
        let fits = clipped_in_bounds s.rises s.days s.first s.present c h.bounds.present formed in
        let t = exact fits f in
        let same = clipped-past (present_profile s) s.present c ((well_formed (present_profile s) c).0 formed) in
        let present : Padded s.days (retightened s (clipped s.present c)).floors × Padded s.days (retightened s (clipped s.present c)).ceilings =
        (λ k u l. t.floors-past k u ∙ (same k u).0 ∙ h.present.0 k u l, λ k u l. t.ceilings-past k u ∙ (same k u).1 ∙ h.present.1 k u l) in
        let bounds = rw (accepted s c room e, f) at (cut_in_bounds s c room h.bounds) in
        rw (accepted s c room e, f) (record { bounds = bounds; rises = h.rises; opened = h.opened; present = present })
    go true false e f =
        let bounds = rw (accepted s c room e, f) at (cut_in_bounds s c room h.bounds) in
        rw (accepted s c room e, f) (record { bounds = bounds; rises = h.rises; opened = h.opened; present = h.opened })
    go false found e f = rw (refused-same s c room e) h

pub numbered_storable : (s : Session) (t : Option Cut) (room : ℕ) → Storable s → Storable (after_numbered s t room).session
unfolding after_numbered
numbered_storable s (Some c) room h = cut_storable s c room h
numbered_storable s None room h = h
