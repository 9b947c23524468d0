-- `ranges-printed`, by demands 2 and 3.
use mathlib.Core.Path.{◌≡◌, refl, sym, ap, ◌∙◌}
use mathlib.Core.Bool.{Bool, true, false, cond, true≢false}
use mathlib.Core.List.{List}
use Prim.Native.Nat.{ℕ, ◌≤◌, ◌<◌}
use native.Mathlib.Nat.{le_refl}
use native.Mathlib.Omega.{arith}
use native.Mathlib.Decide.{ℕ_discrete}
use lib.IntN.{ℤ}
use lib.Dec.{eqb}
use lib.ListN.{length}
use borrow.Author.Tests.{eqb-true, eqb-false}
use Rattle.session.specs.Profile.{Profile, Spans}
use Rattle.session.specs.Opening.{early_opening, opened, refused_with, Opened}
use Rattle.session.proofs.Entered.{entered}
use Rattle.session.proofs.SessionBounds.{opened-refusal}
use Rattle.session_cuts.specs.declared.Cut.{Cut}
use Rattle.session_cuts.specs.Sheet.{cut_on}
use Rattle.session_cutting.specs.Cutting.{malformed}
use Rattle.file_format.specs.Format.{known, profile_in, cuts_in}
use Rattle.file_format.specs.Reading as Reading
use Rattle.file_format.specs.Reading.{no_header, bad_counts, bad_layout, bad_fields}
use Rattle.file_format.proofs.ReadAgain.{passed}
use Rattle.file_printing.proofs.Lines.{all-refused}
use Rattle.file_printing.specs.Printing.{cut_all, file_opened}
use Rattle.promises.specs.Cuts.{Keeps, CutCall, ValidIn, Kept}
use Rattle.promises.proofs.Clip.{well_formed}
use Rattle.promises.specs.Demands.{Exact}
use Rattle.promises.proofs.Demand2.{unrefused, demand_2}
use Rattle.promises.proofs.Demand3.{demand_3}
use Rattle.promises.specs.Printing.{FileSchedule, RangesPrinted}
use Rattle.promises.proofs.CutAll.{hand, handed, mem-handed, handed-mem, reached, eight_at, else_eight}

spans_same : {S T : List ℤ → Type 0} {f : List ℤ → ℤ} {lo hi : ℤ} → ((x : List ℤ) → T x → S x) → ((x : List ℤ) → S x → T x) → Spans S f lo hi → Spans T f lo hi
spans_same of to s = record { some = s.some; inside = λ x t. s.inside x (of x t); taken = λ v l u. let w = s.taken v l u in (w.0, to w.0 w.1, w.2) }

module _ (b : List ℕ) where
  abbrev p : Profile
  p = profile_in b

  abbrev f : ℕ → Cut
  f = cut_on (cuts_in b)

  abbrev m : ℕ
  m = length (cuts_in b)

  -- a schedule that keeps the file's cuts keeps those that were handed over
  kept : (k : ℕ) → k ≤ m → (x : List ℤ) → FileSchedule b x → Kept p (handed f k) x
  kept k h x s = record { schedule = s.schedule; keeps = keeps }
    where
      keeps : (c : Cut) → ValidIn p (handed f k) c → Keeps p c x
      keeps c v =
          let j = handed-mem f k v.handed v.member in
          let same : f j.0 ≡ c = ap known (sym (ap (λ (h : CutCall). h.cut) j.2) ∙ v.valid.known) in
          rw same at (s.keeps j.0 (omega (arith, j.1)))

  -- and the other way, where they are all well-formed
  keeps-all : (few : p.days ≤ 512) → ((j : ℕ) → j < m → malformed p.days (f j) ≡ 0) → (x : List ℤ) → Kept p (handed f m) x → FileSchedule b x
  keeps-all few formed x k =
      record {
        schedule = k.schedule;
        keeps = λ j h.
            k.keeps (f j) (record {
              handed = hand (f j);
              member = mem-handed f m j h;
              valid = record { known = refl; formed = (well_formed p (f j)).0 (formed j h); roomy = few };
            });
      }

  module _ (z : (opened p).refusal ≡ 0) where
    few : p.days ≤ 512
    few = (entered p (unrefused p z).early).sized.few

    exact : (cut_all (opened p) f m).refusal ≡ 0 → Exact p (FileSchedule b) (cut_all (opened p) f m).session
    exact e =
        let w = reached f p z m e in
        let all = demand_3 p z (handed f m) in
        let right : Exact p (Kept p (handed f m)) (cut_all (opened p) f m).session = rw w.session (all.exact (rw (sym w.session) w.unspent)) in
        record {
          each = λ i h. spans_same (kept m (le_refl m)) (keeps-all few w.formed) (right.each i h);
          sum = spans_same (kept m (le_refl m)) (keeps-all few w.formed) right.sum;
        }

    eight : (cut_all (opened p) f m).refusal ≡ 8 → (x : List ℤ) → FileSchedule b x → ⊥
    eight e x s =
        let w = eight_at f p z m e in
        (demand_3 p z (handed f w.0)).spent.0 w.2 x (kept w.0 w.1 x s)

    none : ((j : ℕ) → j < m → malformed p.days (f j) ≡ 0) → ((x : List ℤ) → FileSchedule b x → ⊥) → (cut_all (opened p) f m).refusal ≡ 8
    none formed n = else_eight f p z few m formed (λ e. spent e)
      where
        spent : (cut_all (opened p) f m).refusal ≡ 0 → ⊥
        spent e =
            let w = reached f p z m e in
            let over = (demand_3 p z (handed f m)).spent.1 (λ x k. n x (keeps-all few formed x k)) in
            true≢false (sym over ∙ rw w.session at w.unspent)

-- ---- the stages before the cuts

reading_apart : (b : List ℕ) → Reading.early_reading b ≡ 8 → ⊥
unfolding Reading.early_reading
reading_apart b = go (no_header b) (bad_counts b) (bad_layout b) (bad_fields b)
  where
    go : (a c d e : Bool) → ◌≡◌ {A = ℕ} (cond a 11 (cond c 1 (cond d 11 (cond e 12 0)))) 8 → ⊥
    go true c d e h = omega arith
    go false true d e h = omega arith
    go false false true e h = omega arith
    go false false false true h = omega arith
    go false false false false h = omega arith

-- what is refused at opening and passes every check before 8 is refused with 8
shut_eight : (p : Profile) → early_opening p ≡ 0 → ((opened p).refusal ≡ 0 → ⊥) → (opened p).refusal ≡ 8
shut_eight p e n = go (ℕ_discrete (opened p).refusal 8)
  where
    go : Dec ((opened p).refusal ≡ 8) → (opened p).refusal ≡ 8
    go (yes h) = h
    go (no h) = absurd (n (opened-refusal p h ∙ e))

-- by the reader's answer: refused, or opened and cut
by_reading : (b : List ℕ) (P : Opened → Type 0) → ((Reading.early_reading b ≡ 0 → ⊥) → P (refused_with (Reading.early_reading b)))
    → (Reading.early_reading b ≡ 0 → ((opened (profile_in b)).refusal ≡ 0 → ⊥) → P (opened (profile_in b)))
    → (Reading.early_reading b ≡ 0 → (opened (profile_in b)).refusal ≡ 0 → P (cut_all (opened (profile_in b)) (cut_on (cuts_in b)) (length (cuts_in b)))) → P (file_opened b)
unfolding file_opened
by_reading b P refused shut cut = go (eqb (Reading.early_reading b) 0) (eqb (opened (profile_in b)).refusal 0) refl refl
  where
    go : (r o : Bool) → eqb (Reading.early_reading b) 0 ≡ r → eqb (opened (profile_in b)).refusal 0 ≡ o → P (file_opened b)
    go true true e h = rw e (cut (eqb-true _ _ e) (eqb-true _ _ h))
    go true false e h =
        let n = eqb-false (opened (profile_in b)).refusal 0 h in
        rw (e, all-refused (opened (profile_in b)) (cut_on (cuts_in b)) n (length (cuts_in b))) (shut (eqb-true _ _ e) n)
    go false o e h = rw e (refused (eqb-false _ _ e))

pub ranges-printed : (b : List ℕ) → RangesPrinted b
ranges-printed b =
    record {
      exact = by_reading b (λ o. o.refusal ≡ 0 → Exact (profile_in b) (FileSchedule b) o.session) (λ n z. absurd (n z)) (λ e n z. absurd (n z)) (λ e z. exact b z);
      eight = by_reading b (λ o. o.refusal ≡ 8 → (x : List ℤ) → FileSchedule b x → ⊥) (λ n z. absurd (reading_apart b z))
          (λ e n z x s. ((demand_2.none (profile_in b)).0 z).1 x s.schedule) (λ e z. eight b z);
      none = λ e w n. by_reading b (λ o. o.refusal ≡ 8) (λ h. absurd (h e)) (λ _ h. shut_eight (profile_in b) (passed (profile_in b) (cuts_in b) w).early h) (λ _ z. none b z (passed (profile_in b) (cuts_in b) w).formed n);
    }
