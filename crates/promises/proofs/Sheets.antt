-- A sheet of cuts holds what is promised: it is the single calls, made one after another; of its list all is said that is said of a cut's.
use Rattle.std.specs.Prelude.{Option}
use mathlib.Core.Path.{◌≡◌, refl, sym, ap, ◌∙◌}
use mathlib.Core.Bool.{Bool, true, false, cond}
use mathlib.Core.List.{List, [], ◌∷◌, ◌++◌}
use Prim.Native.Nat.{ℕ, zero, suc, ◌≤◌}
use native.Mathlib.Omega.{arith}
use lib.Dec.{eqb, ltb}
use lib.ListN.{length, replicate, length-replicate}
use borrow.Author.Tests.{ne_eqb, eqb-true, eqb-false, ltb-true, ltb-false}
use Rattle.limits.specs.Limits.{most_cuts}
use Rattle.theory_lists.specs.ListOf.{list_of}
use Rattle.theory_lists.specs.Written.{written_below}
use Rattle.theory_lists.specs.Front.{in_front}
use Rattle.session.specs.Opening.{opened}
use Rattle.session.specs.declared.Session.{Session}
use Rattle.session_cutting.specs.Cutting.{after_numbered}
use Rattle.session_sheets.specs.Sheets.{AfterSheet, Answered, after_cuts, sheet_refusal, not_answered, asked_on, answers_to, taken_sheet, refused_sheet, after_sheet, list_after_sheet}
use Rattle.session_sheets.specs.declared.AskedSheet.{AskedSheet}
use Rattle.session_sheets.proofs.Laws.{after_narrows}
use Rattle.promises.specs.Cuts.{after}
use Rattle.promises.specs.Sheets.{SheetRefused, NoCut, calls_of, SingleCalls, SheetChanges, Sheets}
use Rattle.promises.proofs.After.{after_append, after-days}
use Rattle.promises.proofs.Changed.{changes}
use Rattle.promises.proofs.Demand3.{demand_3}
use Rattle.session_cuts.specs.declared.Cut.{Cut}

-- ---- single calls

-- one more
list-more : {A : Type 0} (f : ℕ → A) (n : ℕ) → list_of f (suc n) ≡ list_of f n ++ f n ∷ []
unfolding list_of
list-more f zero = refl
list-more f (suc n) = ap (λ l. f 0 ∷ l) (list-more (λ k. f (suc k)) n)

pub after-calls : (s : Session) (f : ℕ → Option Cut) (j : ℕ) → after s (calls_of f s.days j) ≡ after_cuts s f j
unfolding list_of after_cuts
after-calls s f zero = refl
after-calls s f (suc j) =
    ap (after s) (list-more (λ k. record { cut = f k; room = s.days }) j)
    ∙ after_append s (calls_of f s.days j) (record { cut = f j; room = s.days } ∷ [])
    ∙ ap (λ e. (after_numbered e (f j) s.days).session) (after-calls s f j)

-- ---- the refusal

pub refusals : (n m answers changed : ℕ) → SheetRefused n m answers changed (sheet_refusal n m answers changed)
unfolding sheet_refusal
refusals n m answers changed = go (ltb most_cuts m) (ltb answers m) (ltb changed n) refl refl refl
  where
    go : (a b c : Bool) → ltb most_cuts m ≡ a → ltb answers m ≡ b → ltb changed n ≡ c → SheetRefused n m answers changed (cond a 1 (cond b 14 (cond c 2 0)))
    go true b c e f g =
        let h = ltb-true most_cuts m e in
        record {
          one = (λ z. omega arith, λ k. refl);
          fourteen = (λ z. absurd (omega arith), λ k. absurd (omega (arith, k.0)));
          two = (λ z. absurd (omega arith), λ k. absurd (omega (arith, k.0)));
          none = (λ z. absurd (omega arith), λ k. absurd (omega (arith, k.0)));
        }
    go false true c e f g =
        let h = ltb-false most_cuts m e in
        let i = ltb-true answers m f in
        record {
          one = (λ z. absurd (omega arith), λ k. absurd (omega arith));
          fourteen = (λ z. (h, i), λ k. refl);
          two = (λ z. absurd (omega arith), λ k. absurd (omega (arith, k.1)));
          none = (λ z. absurd (omega arith), λ k. absurd (omega (arith, k.1)));
        }
    go false false true e f g =
        let h = ltb-false most_cuts m e in
        let i = ltb-false answers m f in
        let j = ltb-true changed n g in
        record {
          one = (λ z. absurd (omega arith), λ k. absurd (omega arith));
          fourteen = (λ z. absurd (omega arith), λ k. absurd (omega (arith, k.1)));
          two = (λ z. (h, i, j), λ k. refl);
          none = (λ z. absurd (omega arith), λ k. absurd (omega (arith, k.2)));
        }
    go false false false e f g =
        let h = ltb-false most_cuts m e in
        let i = ltb-false answers m f in
        let j = ltb-false changed n g in
        record {
          one = (λ z. absurd (omega arith), λ k. absurd (omega arith));
          fourteen = (λ z. absurd (omega arith), λ k. absurd (omega (arith, k.1)));
          two = (λ z. absurd (omega arith), λ k. absurd (omega (arith, k.2)));
          none = (λ z. (h, i, j), λ k. refl);
        }

-- what holds of an answer, by the refusal
pub by_refusal : {A : Type 0} (P : A → Type 0) (refusal : ℕ) {x y : A} → (refusal ≡ 0 → P x) → ((refusal ≡ 0 → ⊥) → P y) → P (cond (eqb refusal 0) x y)
by_refusal P refusal {x} {y} when unless = go (eqb refusal 0) refl
  where
    go : (b : Bool) → eqb refusal 0 ≡ b → P (cond b x y)
    go true e = when (eqb-true refusal 0 e)
    go false e = unless (eqb-false refusal 0 e)

-- ---- the sheet

module _ (s : Session) (t : AskedSheet) (room : ℕ) (l : List ℕ) where
  abbrev refusal : ℕ
  refusal = sheet_refusal s.days t.count room (length l)

  abbrev r : AfterSheet
  r = after_sheet s t room (length l)

  abbrev end : Session
  end = after_cuts s (asked_on t) t.count

  by_checks : (P : AfterSheet → Type 0) → (refusal ≡ 0 → P (taken_sheet s (asked_on t) t.count)) → ((refusal ≡ 0 → ⊥) → P (refused_sheet refusal s)) → P r
  unfolding after_sheet
  by_checks P = by_refusal P refusal

  says : r.refusal ≡ refusal
  says = by_checks (λ q. q.refusal ≡ refusal) (λ z. sym z) (λ h. refl)

  no_cut : (r.refusal ≡ 0 → ⊥) → NoCut s l r
  unfolding list_after_sheet
  no_cut = by_checks (λ q. (q.refusal ≡ 0 → ⊥) → NoCut s l q) (λ z h. absurd (h refl)) (λ h k. record { session = refl; list = rw (ne_eqb refusal 0 h) refl; answers = refl; changed = refl })

  module _ (z : r.refusal ≡ 0) where
    taken : r ≡ taken_sheet s (asked_on t) t.count
    taken = by_checks (λ q. q.refusal ≡ 0 → q ≡ taken_sheet s (asked_on t) t.count) (λ h k. refl) (λ h k. absurd (h k)) z

    fits : (t.count ≤ most_cuts) × (t.count ≤ room) × (s.days ≤ length l)
    fits = (refusals s.days t.count room (length l)).none.0 (sym says ∙ z)

    calls : SingleCalls s t r
    unfolding answers_to
    calls = rw taken (record {
      session = sym (after-calls s (asked_on t) t.count);
      count = refl;
      answer = λ j h.
          written_below _ not_answered t.count (replicate most_cuts not_answered) j h (omega (arith, fits.0, length-replicate {A = Answered} most_cuts not_answered))
          ∙ ap (λ e. record { cut = asked_on t j; answer = (after_numbered e (asked_on t j) s.days).answer }) (sym (after-calls s (asked_on t) j));
    })

    changed : SheetChanges s l r
    unfolding list_after_sheet in_front
    changed = rw taken (record {
      unspent = λ u. changes s end (rw u refl) (rw u refl) fits.2 (λ b. after_narrows s (asked_on t) t.count b u);
      spent = λ u. rw u (refl, refl);
    })

pub sheets : Sheets
sheets =
    record {
      refusal = λ s t room l. rw (says s t room l) (refusals s.days t.count room (length l));
      refused = no_cut;
      calls = calls;
      changed = changed;
      lists = λ p z hs s e t room l h. record {
        session = (calls s t room l h).session ∙ ap (λ q. after q (calls_of (asked_on t) s.days t.count)) e ∙ sym (after_append (opened p).session hs (calls_of (asked_on t) s.days t.count));
        list = demand_3 p z (hs ++ calls_of (asked_on t) s.days t.count);
        roomy = rw e (after-days p z hs);
      };
    }
