-- What holds of cuts made one after another on a session, and the loop that makes them.
use Rattle.std.specs.Prelude.{Option}
use mathlib.Core.Path.{◌≡◌, refl, ap, sym, ◌∙◌}
use mathlib.Core.Bool.{Bool, true, false, cond, true≢false}
use mathlib.Core.List.{List, [], ◌∷◌}
use Prim.Native.Nat.{ℕ, zero, suc, ◌+◌, ◌≤◌, ◌<◌}
use native.Mathlib.Numerals.{add-one}
use native.Mathlib.Omega.{arith}
use lib.Dec.{ltb}
use lib.ListN.{length, get_or, set, replicate}
use borrow.Author.Tests.{ne_eqb, lt-ltb, le-ltb, ltb-false}
use Rattle.limits.specs.Limits.{most_cuts}
use Rattle.theory_lists.specs.Front.{in_front}
use Rattle.theory_lists.specs.Filled.{Filled, filled_none, filled_more, filled-all}
use Rattle.session.specs.Showing.{SessionInBounds}
use Rattle.session.specs.declared.Session.{Session}
use Rattle.session_order.specs.Order.{settled_losers}
use Rattle.session_changed.specs.Changes.{lost}
use Rattle.session_changed.proofs.Laws.{narrowed-losers, narrowed_none, narrowed-again}
use Rattle.session_cutting.specs.Cutting.{changed_days, after_numbered, AfterCut}
use Rattle.session_cutting.proofs.Laws.{Narrows, keeps, numbered_within, numbered_in_bounds}
use Rattle.session_sheets.specs.Sheets.{Answered, Answers, AfterSheet, after_cuts, answer_on, answers_to, not_asked, not_answered, sheet_refusal, sheet_days, asked_on, refused_sheet, after_sheet, list_after_sheet}
use Rattle.session_sheets.specs.declared.Asked.{Asked}
use Rattle.session_sheets.specs.declared.AskedSheet.{AskedSheet}
use Rattle.session_cuts.specs.declared.Cut.{Cut}

-- ---- cuts one after another

-- what they keep of a session
pub record Kept (s e : Session) : Type 0 where
  pub days : e.days ≡ s.days
  pub first : e.first ≡ s.first
  pub rises : e.rises ≡ s.rises
  pub opened : e.opened ≡ s.opened

-- a session that a cut leaves unspent was unspent
was_unspent : (s : Session) (t : Option Cut) (room : ℕ) → (after_numbered s t room).session.spent ≡ false → s.spent ≡ false
was_unspent s t room u = go s.spent refl
  where
    go : (b : Bool) → s.spent ≡ b → s.spent ≡ false
    go false e = e
    go true e = absurd (true≢false (sym e ∙ ap (λ (x : Session). x.spent) (sym ((keeps s t room).spent e)) ∙ u))

module _ (s : Session) (f : ℕ → Option Cut) where
  pub after_none : after_cuts s f 0 ≡ s
  unfolding after_cuts
  after_none = refl

  pub after_more : (j : ℕ) → after_cuts s f (j + 1) ≡ (after_numbered (after_cuts s f j) (f j) s.days).session
  unfolding after_cuts
  after_more j = rw add-one refl

  pub after_kept : (j : ℕ) → Kept s (after_cuts s f j)
  unfolding after_cuts
  after_kept zero = record { days = refl; first = refl; rises = refl; opened = refl }
  after_kept (suc j) =
      let k = keeps (after_cuts s f j) (f j) s.days in
      let h = after_kept j in
      record { days = k.days ∙ h.days; first = k.first ∙ h.first; rises = k.rises ∙ h.rises; opened = k.opened ∙ h.opened }

  pub after-days : (j : ℕ) → (after_cuts s f j).days ≡ s.days
  after-days j = (after_kept j).days

  pub after-opened : (j : ℕ) → (after_cuts s f j).opened ≡ s.opened
  after-opened j = (after_kept j).opened

  pub after-bounds : (j : ℕ) → SessionInBounds s → SessionInBounds (after_cuts s f j)
  unfolding after_cuts
  after-bounds zero b = b
  after-bounds (suc j) b = numbered_in_bounds (after_cuts s f j) (f j) s.days (after-bounds j b)

  -- a spent session stays as it is
  pub after-spent : (j : ℕ) → s.spent ≡ true → after_cuts s f j ≡ s
  unfolding after_cuts
  after-spent zero u = refl
  after-spent (suc j) u =
      let e = after-spent j u in
      (keeps (after_cuts s f j) (f j) s.days).spent (ap (λ (x : Session). x.spent) e ∙ u) ∙ e

  -- one that the cuts spend shows the ranges that it had when opened
  pub after-shown : (j : ℕ) → s.spent ≡ false → (after_cuts s f j).spent ≡ true → (after_cuts s f j).present ≡ s.opened
  unfolding after_cuts
  after-shown zero u v = absurd (true≢false (sym v ∙ u))
  after-shown (suc j) u v = go (after_cuts s f j).spent refl (after-shown j u)
    where
      go : (b : Bool) → (after_cuts s f j).spent ≡ b → ((after_cuts s f j).spent ≡ true → (after_cuts s f j).present ≡ s.opened)
          → (after_numbered (after_cuts s f j) (f j) s.days).session.present ≡ s.opened
      go true e ih = ap (λ (x : Session). x.present) ((keeps (after_cuts s f j) (f j) s.days).spent e) ∙ ih e
      go false e ih = (keeps (after_cuts s f j) (f j) s.days).spends e v ∙ after-opened j

  -- of one that ends unspent each range is the one before, or lies within it
  pub after_narrows : (j : ℕ) → SessionInBounds s → (after_cuts s f j).spent ≡ false → Narrows s (after_cuts s f j)
  unfolding after_cuts
  after_narrows zero b u = narrowed_none s.present.floors s.present.ceilings s.days b.present.ceiling
  after_narrows (suc j) b u =
      let last = numbered_within (after_cuts s f j) (f j) s.days (after-bounds j b) u in
      narrowed-again (after_narrows j b (was_unspent (after_cuts s f j) (f j) s.days u)) (rw (after-days j) at last)

-- its days that differ, as the code finds them
pub sheet_days-losers : (s e : Session) → Narrows s e
    → changed_days s.days s.present e.present ≡ settled_losers (lost s.present.floors s.present.ceilings e.present.floors e.present.ceilings) s.days
sheet_days-losers s e w = narrowed-losers w

-- ---- the refusals before the first cut

module _ (n m answers changed : ℕ) where
  pub sheet_long : most_cuts < m → 1 ≡ sheet_refusal n m answers changed
  unfolding sheet_refusal
  sheet_long h = rw (lt-ltb most_cuts m h)

  module _ (few : m ≤ most_cuts) where
    pub sheet_unanswered : answers < m → 14 ≡ sheet_refusal n m answers changed
    unfolding sheet_refusal
    sheet_unanswered h = rw (le-ltb most_cuts m few, lt-ltb answers m h)

    module _ (roomy : m ≤ answers) where
      pub sheet_unlisted : changed < n → 2 ≡ sheet_refusal n m answers changed
      unfolding sheet_refusal
      sheet_unlisted h = rw (le-ltb most_cuts m few, le-ltb answers m roomy, lt-ltb changed n h)

      pub sheet_taken : n ≤ changed → 0 ≡ sheet_refusal n m answers changed
      unfolding sheet_refusal
      sheet_taken h = rw (le-ltb most_cuts m few, le-ltb answers m roomy, le-ltb changed n h)

  -- what is known where none refuses
  pub sheet_passed : sheet_refusal n m answers changed ≡ 0 → (m ≤ most_cuts) × (m ≤ answers) × (n ≤ changed)
  unfolding sheet_refusal
  sheet_passed = go (ltb most_cuts m) (ltb answers m) (ltb changed n) refl refl refl
    where
      go : (a b d : Bool) → ltb most_cuts m ≡ a → ltb answers m ≡ b → ltb changed n ≡ d → ◌≡◌ {A = ℕ} (cond a 1 (cond b 14 (cond d 2 0))) 0
          → (m ≤ most_cuts) × (m ≤ answers) × (n ≤ changed)
      go true b d p q r z = absurd (omega arith)
      go false true d p q r z = absurd (omega arith)
      go false false true p q r z = absurd (omega arith)
      go false false false p q r z = (ltb-false most_cuts m p, ltb-false answers m q, ltb-false changed n r)

-- ---- the list

module _ (s e : Session) (l : List ℕ) where
  pub list-none : e.spent ≡ true → (0 ≡ length (sheet_days s e)) × (l ≡ in_front (sheet_days s e) l)
  unfolding in_front
  list-none h = rw h (refl, refl)

  pub list-some : {count : ℕ} {out : List ℕ} → e.spent ≡ false
      → (count ≡ length (changed_days s.days s.present e.present)) × (out ≡ in_front (changed_days s.days s.present e.present) l)
      → (count ≡ length (sheet_days s e)) × (out ≡ in_front (sheet_days s e) l)
  list-some h g = rw h g

-- ---- the loop

-- a single cut with a list of n places
pub one-cut : (s : Session) (t : Option Cut) {room : ℕ} {r : AfterCut} → SessionInBounds s → r ≡ after_numbered s t room → room ≡ s.days
    → (r ≡ after_numbered s t s.days) × SessionInBounds r.session
one-cut s t {room} b e n = (e ∙ ap (after_numbered s t) n, rw e (numbered_in_bounds s t room b))

-- the cut at a place that the sheet has, whatever is given past its end
pub asked-same : (l : List Asked) (j : ℕ) (d : Asked) → j < length l → (get_or l j d).cut ≡ (get_or l j not_asked).cut
asked-same [] j d h = absurd (omega arith)
asked-same (a ∷ l) zero d h = refl
asked-same (a ∷ l) (suc j) d h = asked-same l j d (omega arith)

-- the first j of n cuts are made, and each is answered
pub record Making (s : Session) (f : ℕ → Option Cut) (n j : ℕ) (blank : List Answered) (after : AfterCut) (entries : List Answered) : Type 0 where
  pub made : after.session ≡ after_cuts s f j
  pub bounds : SessionInBounds after.session
  pub answered : Filled (λ i. record { cut = f i; answer = answer_on s f i }) n j blank entries

module _ {s : Session} {f : ℕ → Option Cut} {n : ℕ} {blank : List Answered} where
  pub making_none : {o : AfterCut} → o.session ≡ s → SessionInBounds o.session → Making s f n 0 blank o blank
  making_none e b = record { made = e ∙ sym (after_none s f); bounds = b; answered = filled_none }

  -- t is the cut that the code read
  pub making_more : {j : ℕ} {after next : AfterCut} {entries : List Answered} {t : Option Cut} {v : Answered} → Making s f n j blank after entries → j < n → t ≡ f j
      → (next ≡ after_numbered after.session t after.session.days) × SessionInBounds next.session → v ≡ record { cut = t; answer = next.answer }
      → Making s f n (j + 1) blank next (set entries j v)
  making_more {j} {next = next} {t = t} h u same e v =
      let one : next ≡ after_numbered (after_cuts s f j) (f j) s.days =
      e.0 ∙ ap (λ (x : Session). after_numbered x t x.days) h.made ∙ ap (after_numbered (after_cuts s f j) t) (after-days s f j)
      ∙ ap (λ (x : Option Cut). after_numbered (after_cuts s f j) x s.days) same in
      record {
        made = ap (λ (a : AfterCut). a.session) one ∙ sym (after_more s f j);
        bounds = e.1;
        answered = filled_more h.answered u (rw (v, same, one));
      }

  pub making_all : {j : ℕ} {after : AfterCut} {entries : List Answered} → Making s f n j blank after entries → n ≤ j → blank ≡ replicate most_cuts not_answered
      → (record { count = n; entries = entries } ≡ answers_to s f n) × (after.session ≡ after_cuts s f n)
  unfolding answers_to
  making_all {j} h u e =
      let end : j ≡ n = omega (arith, h.answered.most) in
      (rw (filled-all h.answered u, e), rw end at h.made)

-- ---- the sheet

pub made_narrows : (s : Session) (f : ℕ → Option Cut) (m : ℕ) {out : Session} → out ≡ after_cuts s f m → SessionInBounds s → out.spent ≡ false → Narrows s out
made_narrows s f m e b u = rw e (after_narrows s f m b (rw e at u))

module _ (s : Session) (t : AskedSheet) (room : ℕ) (l : List ℕ) where
  pub sheet_refused : {number : ℕ} {r : AfterSheet} → number ≡ sheet_refusal s.days t.count room (length l) → (number ≡ 0 → ⊥) → r ≡ refused_sheet number s
      → (r ≡ after_sheet s t room (length l)) × (l ≡ list_after_sheet s r l)
  unfolding after_sheet list_after_sheet
  sheet_refused {number} e apart g = (g ∙ rw (← e, ne_eqb number 0 apart), rw (g, ne_eqb number 0 apart))

  pub sheet_made : {answers : Answers} {end : Session} {count : ℕ} {list : List ℕ} → sheet_refusal s.days t.count room (length l) ≡ 0
      → (answers ≡ answers_to s (asked_on t) t.count) × (end ≡ after_cuts s (asked_on t) t.count)
      → (count ≡ length (sheet_days s end)) × (list ≡ in_front (sheet_days s end) l)
      → let r : AfterSheet = record { refusal = 0; changed = count; answers = answers; session = end } in
      (r ≡ after_sheet s t room (length l)) × (list ≡ list_after_sheet s r l)
  unfolding after_sheet list_after_sheet
  sheet_made z e g = (rw (z, g.0, e.0, e.1), g.1)
