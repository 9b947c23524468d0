-- A file's cuts, one after another, as a list of cuts handed over.
use Rattle.std.specs.Prelude.{Some}
use mathlib.Core.Path.{◌≡◌, refl, sym, ap, ◌∙◌}
use mathlib.Core.Bool.{Bool, true, false}
use mathlib.Core.Logic.{◌↔◌, ⊎_elim}
use mathlib.Core.List.Memᴰ
use mathlib.Core.List.{List, [], ◌∷◌, Memᴰ}
use Prim.Native.Nat.{ℕ, zero, suc, ◌≤◌, ◌<◌}
use native.Mathlib.Omega.{arith}
use native.Mathlib.Decide.{dec_lt}
use lib.Dec.{eqb}
use lib.ListN.{replicate, length-replicate}
use borrow.Author.Count.{below_more}
use borrow.Author.Tests.{eqb-true, eqb-false, le-ltb}
use Rattle.theory_lists.specs.Rows.{rows}
use Rattle.session.specs.Profile.{Profile}
use Rattle.session.specs.Opening.{opened}
use Rattle.session.specs.declared.Session.{Session}
use Rattle.session_cuts.specs.declared.Cut.{Cut}
use Rattle.session_cutting.specs.Cutting.{malformed, early_cutting, after_cut, after_numbered, retightened, clipped}
use Rattle.session_cutting.proofs.Laws.{passed, accepted, refused-same, earlier_none, keeps}
use Rattle.file_printing.proofs.Lines.{once-refused, once_applied}
use Rattle.file_printing.specs.Printing.{after_entry, cut_once, cut_all}
use Rattle.promises.specs.Cuts.{CutCall, after}
use Rattle.promises.proofs.Demand1.{demand_1}
use Rattle.promises.proofs.Demand2.{unrefused}
use Rattle.promises.proofs.After.{after_append}

-- ---- one cut

module _ (s : Session) (c : Cut) (room : ℕ) where
  -- an accepted cut is well-formed, and leaves an unspent session unspent
  cut-formed : (after_cut s c room).answer.refusal ≡ 0 → malformed s.days c ≡ 0
  cut-formed z = go (eqb (early_cutting s c room) 0) refl
    where
      go : (b : Bool) → eqb (early_cutting s c room) 0 ≡ b → malformed s.days c ≡ 0
      go true e = (passed s c room e).formed
      go false e = absurd (eqb-false (early_cutting s c room) 0 e (rw (refused-same s c room e) at z))

  eight-spent : ((after_cut s c room).answer.refusal ≡ 8) ↔ (s.spent ≡ false) × ((after_cut s c room).session.spent ≡ true)
  unfolding after_numbered
  eight-spent = rw (length-replicate {A = ℕ} room 0) at (demand_1.refused s (Some c) (replicate room 0)).eight

  cut-unspent : s.spent ≡ false → (after_cut s c room).answer.refusal ≡ 0 → (after_cut s c room).session.spent ≡ false
  cut-unspent u z = go (after_cut s c room).session.spent refl
    where
      go : (b : Bool) → (after_cut s c room).session.spent ≡ b → b ≡ false
      go true e = let w = eight-spent.1 (u, e) in absurd (omega arith)
      go false e = refl

  -- a well-formed cut of an unspent session is accepted, or there is no schedule
  cut-answer : malformed s.days c ≡ 0 → s.days ≤ room → s.spent ≡ false → ((after_cut s c room).answer.refusal ≡ 0 → ⊥) → (after_cut s c room).answer.refusal ≡ 8
  cut-answer m r u n = go (retightened s (clipped s.present c)).found refl n
    where
      e : eqb (early_cutting s c room) 0 ≡ true
      e = earlier_none s c room m (le-ltb room s.days r) u

      go : (found : Bool) → (retightened s (clipped s.present c)).found ≡ found → ((after_cut s c room).answer.refusal ≡ 0 → ⊥) → (after_cut s c room).answer.refusal ≡ 8
      go true f n = absurd (n (rw (accepted s c room e, f) refl))
      go false f n = rw (accepted s c room e, f) refl

-- ---- a list of cuts

-- a cut of a file as it is handed over
abbrev pub hand : Cut → CutCall
hand c = record { cut = Some c; room = 512 }

module _ (f : ℕ → Cut) where
  -- the first m cuts
  abbrev pub handed : ℕ → List CutCall
  handed m = rows (λ j. hand (f j) ∷ []) m

  pub mem-handed : (m j : ℕ) → j < m → Memᴰ (hand (f j)) (handed m)
  unfolding rows
  mem-handed zero j h = absurd (omega arith)
  mem-handed (suc m) j h = go (dec_lt j m) (mem-handed m j)
    where
      go : Dec (j < m) → (j < m → Memᴰ (hand (f j)) (handed m)) → Memᴰ (hand (f j)) (handed (suc m))
      go (yes l) ih = Memᴰ.append_left _ (ih l)
      go (no l) ih = let e : j ≡ m = omega arith in Memᴰ.append_right (handed m) (Memᴰ.head (ap (λ k. hand (f k)) e))

  pub handed-mem : (m : ℕ) (h : CutCall) → Memᴰ h (handed m) → (j : ℕ) × (j < m) × (h ≡ hand (f j))
  unfolding rows
  handed-mem zero h q = absurd (Memᴰ.not-nil q)
  handed-mem (suc m) h q =
      ⊎_elim (λ l. let r = handed-mem m h l in (r.0, omega (arith, r.1), r.2)) (λ l. (m, omega arith, Memᴰ.eq_of_singleton l)) (Memᴰ.append_cases (handed m) q)

  module _ (p : Profile) (unr : (opened p).refusal ≡ 0) where
    pub record Reached (m : ℕ) : Type 0 where
      pub session : (cut_all (opened p) f m).session ≡ after (opened p).session (handed m)
      pub days : (cut_all (opened p) f m).session.days ≡ p.days
      pub unspent : (cut_all (opened p) f m).session.spent ≡ false
      pub formed : (j : ℕ) → j < m → malformed p.days (f j) ≡ 0

    -- the session after one cut more
    pub after_more : (m : ℕ) → Reached m → after (opened p).session (handed (suc m)) ≡ (after_cut (cut_all (opened p) f m).session (f m) 512).session
    unfolding rows after_numbered
    after_more m w = after_append (opened p).session (handed m) (hand (f m) ∷ []) ∙ rw (sym w.session) refl

    one_more : (m : ℕ) → Reached m → (cut_all (opened p) f m).refusal ≡ 0 → (after_cut (cut_all (opened p) f m).session (f m) 512).answer.refusal ≡ 0 → Reached (suc m)
    unfolding cut_all after_numbered
    one_more m w q z =
        let before : Session = (cut_all (opened p) f m).session in
        let next : cut_all (opened p) f (suc m) ≡ after_entry (after_cut before (f m) 512) = once_applied (cut_all (opened p) f m) (f m) q in
        record {
          session = rw next (sym (after_more m w));
          days = rw next ((keeps before (Some (f m)) 512).days ∙ w.days);
          unspent = rw next (cut-unspent before (f m) 512 w.unspent z);
          formed = λ j h. below_more (λ k. malformed p.days (f k) ≡ 0) m w.formed (rw w.days at (cut-formed before (f m) 512 z)) j (omega arith);
        }

    -- what a refusal of the cuts is, by the first cut that is refused
    abbrev answer : ℕ → ℕ
    answer m = (after_cut (cut_all (opened p) f m).session (f m) 512).answer.refusal

    -- one cut more: what holds where it is accepted, where it is refused, and where an earlier one was
    by_cut : (P : ℕ → Type 0) (m : ℕ) → ((cut_all (opened p) f m).refusal ≡ 0 → P (answer m)) → (((cut_all (opened p) f m).refusal ≡ 0 → ⊥) → P (cut_all (opened p) f m).refusal)
        → P (cut_all (opened p) f (suc m)).refusal
    unfolding cut_all
    by_cut P m here past = go (eqb (cut_all (opened p) f m).refusal 0) refl
      where
        go : (b : Bool) → eqb (cut_all (opened p) f m).refusal 0 ≡ b → P (cut_once (cut_all (opened p) f m) (f m)).refusal
        go true e = let q = eqb-true (cut_all (opened p) f m).refusal 0 e in rw (once_applied (cut_all (opened p) f m) (f m) q) (here q)
        go false e = let q = eqb-false (cut_all (opened p) f m).refusal 0 e in rw (once-refused (cut_all (opened p) f m) (f m) q) (past q)

    pub reached : (m : ℕ) → (cut_all (opened p) f m).refusal ≡ 0 → Reached m
    unfolding cut_all rows
    reached zero = λ z. record { session = refl; days = rw (unrefused p unr).session refl; unspent = rw (unrefused p unr).session refl; formed = λ j h. absurd (omega arith) }
    reached (suc m) = by_cut (λ r. r ≡ 0 → Reached (suc m)) m (λ q z. one_more m (reached m q) q z) (λ q z. absurd (q z))

    -- where 8 is said, the session is spent after some of the cuts
    pub eight_at : (m : ℕ) → (cut_all (opened p) f m).refusal ≡ 8 → (k : ℕ) × (k ≤ m) × ((after (opened p).session (handed k)).spent ≡ true)
    unfolding cut_all
    eight_at zero = λ z. absurd (omega arith)
    eight_at (suc m) =
        by_cut (λ r. r ≡ 8 → (k : ℕ) × (k ≤ suc m) × ((after (opened p).session (handed k)).spent ≡ true)) m
        (λ q z. (suc m, omega arith, rw (after_more m (reached m q)) ((eight-spent (cut_all (opened p) f m).session (f m) 512).0 z).1))
        (λ q z. let w = eight_at m z in (w.0, omega (arith, w.1), w.2))

    -- of well-formed cuts nothing but 8 is said
    pub else_eight : p.days ≤ 512 → (m : ℕ) → ((j : ℕ) → j < m → malformed p.days (f j) ≡ 0) → ((cut_all (opened p) f m).refusal ≡ 0 → ⊥) → (cut_all (opened p) f m).refusal ≡ 8
    unfolding cut_all
    else_eight few zero h = λ n. absurd (n unr)
    else_eight few (suc m) h =
        by_cut (λ r. (r ≡ 0 → ⊥) → r ≡ 8) m
        (λ q. let w = reached m q in cut-answer (cut_all (opened p) f m).session (f m) 512 (rw w.days (h m (omega arith))) (omega (arith, w.days)) w.unspent)
        (λ q n. else_eight few m (λ j l. h j (omega arith)) q)
