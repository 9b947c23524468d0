-- A sheet on a session's bytes: an answer's bytes, the cuts of a list made one after another, what is loaded, and what is stored in the end.
use Rattle.std.specs.Prelude.{Option, Result, Ok, Err}
use Rattle.refusals.specs.declared.Refusal.{Refusal}
use Prim.Native.Nat.{ℕ, ◌+◌, ◌*◌, ◌/◌, ◌%◌, ◌≤◌, ◌<◌}
use mathlib.Core.Path.{◌≡◌, refl, ap, sym, subst, ◌∙◌}
use mathlib.Core.Bool.{Bool, true, false}
use mathlib.Core.List.{List, []}
use native.Mathlib.Omega.{arith}
use lib.ListN.{length, length-append, length-replicate}
use lib.Seq.{sets, length-sets}
use borrow.Author.Tests.{eq-eqb, ne_eqb}
use Rattle.limits.specs.Limits.{most_days}
use Rattle.theory_lists.specs.Sum.{at}
use Rattle.theory_lists.specs.Rows.{rows, length-rows, rows_more, stored_after, front-sets}
use Rattle.theory_lists.specs.Front.{in_front}
use Rattle.theory_lists.specs.Written.{written, length-written, written_below}
use Rattle.theory_method.specs.Filter.{InBounds, zeros}
use Rattle.tighten_filtering.specs.Boxed.{boxed}
use Rattle.base_codes.specs.declared.CodedNumbers.{CodedNumbers}
use Rattle.base_little_endian.specs.Fields.{u16_bytes}
use Rattle.base_little_endian.proofs.Laws.{u16-length}
use Rattle.session.specs.Showing.{SessionInBounds}
use Rattle.session.specs.declared.Ranges.{Ranges}
use Rattle.session.specs.declared.Session.{Session}
use Rattle.session_order.specs.Order.{settled_losers, day_cells}
use Rattle.session_changed.specs.Changes.{lost}
use Rattle.session_cutting.specs.Cutting.{after_numbered, CutAnswer, answer_as}
use Rattle.session_cutting.proofs.Laws.{numbered_few}
use Rattle.session_sheets.specs.Sheets.{after_cuts, answer_on, sheet_refusal, sheet_days}
use Rattle.session_sheets.proofs.Laws.{after_none, after_more, after-days, after-bounds, after-spent, after-shown, after_narrows, sheet_days-losers, sheet_passed}
use Rattle.session_steps.specs.Steps.{width, Holds, Holding, Stepped}
use Rattle.session_steps.specs.declared.Step.{Step}
use Rattle.session_steps.proofs.Laws.{held-bounds}
use Rattle.c_layout.specs.Layout.{session_bytes, decoding, patched}
use Rattle.c_layout.proofs.Inverse.{decoding_in_bounds}
use Rattle.c_layout.proofs.Held.{days_few}
use Rattle.c_sessions.proofs.Cutting.{Loaded}
use Rattle.c_sheets.specs.Sheets.{asked_in, asked_at, answer_bytes, answers_bytes, sheet_bytes, sheet_refusal_over, sheet_answer, bytes_after_sheet, answers_after, days_after}
use Rattle.c_sheets.specs.Stages.{RoomFor, Made, Sheetable, MadeOver}
use Rattle.session_cuts.specs.declared.Cut.{Cut}

-- ---- answers

pub answer-length : (a : CutAnswer) → length (answer_bytes a) ≡ 4
unfolding answer_bytes
answer-length a = length-append (u16_bytes a.refusal) (u16_bytes a.changed) ∙ rw (u16-length a.refusal, u16-length a.changed) refl

pub answers-length : (s : Session) (cuts : List ℕ) (m : ℕ) → length (answers_bytes s cuts m) ≡ m * 4
answers-length s cuts m = length-rows (λ j. answer_bytes (answer_on s (asked_at cuts) j)) 4 m (λ k _. answer-length (answer_on s (asked_at cuts) k))

-- the number of changed days stored behind the refusal
pub answer_stored : (a : CutAnswer) (l : List ℕ) (place : ℕ) {k n : ℕ} {m out : List ℕ} → k ≡ a.refusal → n ≡ a.changed → m ≡ sets l place (u16_bytes k) → out ≡ sets m (place + 2) (u16_bytes n)
    → out ≡ sets l place (answer_bytes a)
unfolding answer_bytes
answer_stored a l place r e p q = stored_after l place 2 (u16_bytes a.refusal) (u16_bytes a.changed) (u16-length a.refusal) (rw r at p) (rw e at q)

-- an answer has no more changed days than there are
pub stepped_few : {s : Session} (t : Option Cut) {q : Step} {rs fs cs ws : List ℕ} → SessionInBounds s → Stepped (after_numbered s t s.days) q rs fs cs ws → (answer_as q.answer).changed ≤ most_days
stepped_few {s} t b e = omega (arith, ap (λ a. a.changed) e.answer, numbered_few s t s.days, b.present.most)

-- a cut that has another name
pub stepped_same : {t u : Option Cut} {p q : Step} {rs fs cs ws fs' cs' ws' : List ℕ} → t ≡ u
    → ((s : Session) → SessionInBounds s → Holds s p rs fs cs ws → Stepped (after_numbered s t s.days) q rs fs' cs' ws')
    → (s : Session) → SessionInBounds s → Holds s p rs fs cs ws → Stepped (after_numbered s u s.days) q rs fs' cs' ws'
stepped_same {q = q} {rs = rs} {fs' = fs'} {cs' = cs'} {ws' = ws'} e k s b h = subst (λ x. Stepped (after_numbered s x s.days) q rs fs' cs' ws') e (k s b h)

-- ---- the loop: the first j of m cuts are made, from whatever session was held

pub record Making (cuts l : List ℕ) (m : ℕ) (p : Step) (rs fs cs ws : List ℕ) (j : ℕ) (q : Step) (fs' cs' ws' out : List ℕ) : Type 0 where
  pub most : j ≤ m
  pub kept : length out ≡ length l
  pub made : (s : Session) → SessionInBounds s → Holds s p rs fs cs ws → Made s cuts j l q rs fs' cs' ws' out

module _ {cuts l : List ℕ} {m : ℕ} {p : Step} {rs fs cs ws : List ℕ} where
  pub making_none : Making cuts l m p rs fs cs ws 0 p fs cs ws l
  unfolding rows
  making_none = record { most = omega arith; kept = refl; made = λ s b h. record { holds = rw (after_none s (asked_at cuts)) h; answers_stored = refl } }

  module _ {j : ℕ} {q : Step} {fs' cs' ws' out : List ℕ} (i : Making cuts l m p rs fs cs ws j q fs' cs' ws' out) where
    -- a session is held
    pub making_holds : Holding p rs fs cs ws → Holding q rs fs' cs' ws'
    making_holds h =
        let s = h.session in
        record { session = after_cuts s (asked_at cuts) j; bounds = after-bounds s (asked_at cuts) j h.bounds; holds = (i.made s h.bounds h.holds).holds }

    pub making_room : RoomFor m cuts l → j < m → RoomFor (j + 1) cuts out
    making_room r u = record { most = omega (arith, r.most); asked = omega (arith, r.asked); answered = omega (arith, r.answered, i.kept) }

    pub making_more : j < m → {r : Step} {fs'' cs'' ws'' out' : List ℕ}
        → ((s : Session) → SessionInBounds s → Holds s q rs fs' cs' ws' → Stepped (after_numbered s (asked_at cuts j) s.days) r rs fs'' cs'' ws'')
        × (out' ≡ sets out (j * 4) (answer_bytes (answer_as r.answer)))
        → Making cuts l m p rs fs cs ws (j + 1) r fs'' cs'' ws'' out'
    making_more u {r} {fs''} {cs''} {ws''} {out'} e =
        record {
          most = omega arith;
          kept = ap length e.1 ∙ length-sets out (j * 4) (answer_bytes (answer_as r.answer)) ∙ i.kept;
          made = λ s b h.
              let f = asked_at cuts in
              let k = i.made s b h in
              let t : Stepped (after_numbered (after_cuts s f j) (f j) s.days) r rs fs'' cs'' ws'' =
              subst (λ n. Stepped (after_numbered (after_cuts s f j) (f j) n) r rs fs'' cs'' ws'') (after-days s f j) (e.0 (after_cuts s f j) (after-bounds s f j b) k.holds) in
              let place : j * 4 ≡ 0 + length (answers_bytes s cuts j) = omega (arith, answers-length s cuts j) in
              record {
                holds = rw (after_more s f j) t.holds;
                answers_stored = e.1 ∙ rw (k.answers_stored, t.answer, place) (rows_more (λ j. answer_bytes (answer_on s f j)) l 0 j);
              };
        }

    pub making_all : m ≤ j → (s : Session) → SessionInBounds s → Holds s p rs fs cs ws → Made s cuts m l q rs fs' cs' ws' out
    making_all u s b h = let e : j ≡ m = omega (arith, i.most) in rw e at (i.made s b h)

-- ---- what is loaded

pub loaded_holds : {b fs cs rs blank ws : List ℕ} {m : CodedNumbers} → Loaded b fs cs rs m → {spent : Bool} → spent ≡ (decoding b).spent → blank ≡ zeros
    → ws ≡ written (width fs cs) m.days blank → {a : Result ℕ Refusal} → Holds (decoding b) (record { numbers = m; spent = spent; answer = a }) rs fs cs ws
loaded_holds {b} {fs} {cs} {rs} {blank} {ws} {m} l e z w =
    let long : length blank ≡ 512 = ap length z ∙ length-replicate {A = ℕ} 512 0 in
    record {
      days = l.days;
      first = l.first;
      rises-held = l.rises;
      mark = e;
      present = λ u. rw (l.floors, l.ceilings, l.lowest, l.highest) refl;
      wide = ap length w ∙ length-written (width fs cs) m.days blank ∙ long;
      widths_held = λ u k h. ap (λ x. at x k) w ∙ written_below (width fs cs) 0 m.days blank k (omega (arith, l.days)) (omega (arith, l.days, days_few b, long));
    }

-- ---- what is stored in the end

none-listed : (l : List ℕ) → l ≡ in_front (day_cells []) l
unfolding day_cells rows in_front
none-listed l = refl

-- the patch of what a session that was not spent becomes
patch : (b : List ℕ) (e : Session) → (decoding b).spent ≡ false → {n : ℕ} {spent : Bool} {r : Ranges} → n ≡ e.days → spent ≡ e.spent → r ≡ e.present → patched b n spent r ≡ sheet_bytes b e
unfolding sheet_bytes
patch b e unspent p q w = (λ i. patched b (p i) (q i) (w i)) ∙ rw unspent refl

module _ (b : List ℕ) {cuts answers : List ℕ} {m : ℕ} {p : Step} {rs fs cs ws out : List ℕ} (h : Made (decoding b) cuts m answers p rs fs cs ws out) where
  abbrev end : Session
  end = after_cuts (decoding b) (asked_at cuts) m

  answered : RoomFor m cuts answers → out ≡ in_front (answers_bytes (decoding b) cuts m) answers
  answered r = h.answers_stored ∙ front-sets (answers_bytes (decoding b) cuts m) answers (omega (arith, answers-length (decoding b) cuts m, r.answered))

  -- no day is listed where the session ends spent
  none_left : (changed : List ℕ) → RoomFor m cuts answers → end.spent ≡ true → {b' : List ℕ} → b' ≡ sheet_bytes b end → MadeOver b cuts m answers changed 0 b' out changed
  none_left changed r e q = record { counted = rw e refl; bytes = q; answered = answered r; listed = rw e (none-listed changed) }

  -- it was spent before
  pub was_spent : (changed : List ℕ) → RoomFor m cuts answers → (decoding b).spent ≡ true → MadeOver b cuts m answers changed 0 b out changed
  unfolding sheet_bytes
  was_spent changed r e = none_left changed r (ap (λ s. s.spent) (after-spent (decoding b) (asked_at cuts) m e) ∙ e) (rw e refl)

  module _ (unspent : (decoding b).spent ≡ false) where
    -- a cut spent it
    pub is_spent : (changed : List ℕ) → RoomFor m cuts answers → p.spent ≡ true → {b' : List ℕ} → b' ≡ patched b (decoding b).days true (decoding b).opened
        → MadeOver b cuts m answers changed 0 b' out changed
    is_spent changed r e q =
        let spent : end.spent ≡ true = sym h.holds.mark ∙ e in
        let shown = after-shown (decoding b) (asked_at cuts) m unspent spent in
        none_left changed r spent (q ∙ patch b end unspent (sym (after-days (decoding b) (asked_at cuts) m)) (sym spent) (sym shown))

    module _ (unspent' : p.spent ≡ false) where
      still : end.spent ≡ false
      still = sym h.holds.mark ∙ unspent'

      bounds : SessionInBounds end
      bounds = after-bounds (decoding b) (asked_at cuts) m (decoding_in_bounds b)

      -- what is stored is in bounds
      pub left-bounds : InBounds (boxed fs cs rs p.numbers)
      left-bounds = held-bounds h.holds bounds still

      pub left-days : p.numbers.days ≡ (decoding b).days
      left-days = h.holds.days ∙ after-days (decoding b) (asked_at cuts) m

      -- the days that lost points are those that differ
      differ : settled_losers (lost (decoding b).present.floors (decoding b).present.ceilings fs cs) p.numbers.days ≡ sheet_days (decoding b) end
      differ =
          let s : Session = decoding b in
          let r = h.holds.present still in
          let listed : ℕ → Ranges → List ℕ = λ n o. settled_losers (lost s.present.floors s.present.ceilings o.floors o.ceilings) n in
          ap (λ n. listed n (record { floors = fs; ceilings = cs; lowest = p.numbers.lowest; highest = p.numbers.highest })) left-days
          ∙ ap (listed s.days) r
          ∙ sym (sheet_days-losers s end (after_narrows s (asked_at cuts) m (decoding_in_bounds b) still))
          ∙ rw still refl

      -- it is not spent
      pub is_open : (changed : List ℕ) → RoomFor m cuts answers → {count : ℕ} {b' changed' : List ℕ}
          → let days = settled_losers (lost (decoding b).present.floors (decoding b).present.ceilings fs cs) p.numbers.days in
          (count ≡ length days)
          × ((changed' ≡ in_front (day_cells days) changed) × (b' ≡ patched b p.numbers.days false (record { floors = fs; ceilings = cs; lowest = p.numbers.lowest; highest = p.numbers.highest })))
          → MadeOver b cuts m answers changed count b' out changed'
      is_open changed r q =
          record {
            counted = q.0 ∙ ap length differ;
            bytes = q.1.1 ∙ patch b end unspent h.holds.days (sym still) (h.holds.present still);
            answered = answered r;
            listed = q.1.0 ∙ ap (λ ds. in_front (day_cells ds) changed) differ;
          }

-- ---- the returns of `cut_sheet`

module _ (b cuts answers changed : List ℕ) where
  -- what is answered, and the bytes and the lists afterwards
  abbrev Gives : CutAnswer → List ℕ → List ℕ → List ℕ → Type 0
  Gives r b' answers' changed' =
      (r ≡ sheet_answer b cuts (length answers) (length changed))
      × ((b' ≡ bytes_after_sheet r.refusal b cuts) × ((answers' ≡ answers_after r.refusal b cuts answers) × (changed' ≡ days_after r.refusal b cuts changed)))

  -- what the sheet is refused for, its session's bytes being whole
  abbrev pub early : ℕ
  early = sheet_refusal (decoding b).days (asked_in (length cuts)) (length answers / 4) (length changed / 2)

  refused : {number : ℕ} → sheet_refusal_over b (length cuts) (length answers) (length changed) ≡ number → (number ≡ 0 → ⊥) → {r : CutAnswer} → r ≡ record { refusal = number; changed = 0 }
      → Gives r b answers changed
  unfolding sheet_answer bytes_after_sheet answers_after days_after
  refused {number} e apart q = rw (q, e, ne_eqb number 0 apart) (refl, (refl, (refl, refl)))

  pub sheet_unread : (length b ≡ session_bytes → ⊥) → {r : CutAnswer} → r ≡ record { refusal = 2; changed = 0 } → Gives r b answers changed
  unfolding sheet_refusal_over
  sheet_unread h = refused (rw (ne_eqb (length b) session_bytes h) refl) (λ z. absurd (omega arith))

  module _ (whole : length b ≡ session_bytes) where
    pub sheet_early : {number : ℕ} → number ≡ early → (number ≡ 0 → ⊥) → {r : CutAnswer} → r ≡ record { refusal = number; changed = 0 } → Gives r b answers changed
    unfolding sheet_refusal_over
    sheet_early {number} e apart = refused (rw (eq-eqb (length b) session_bytes whole, ← e, ne_eqb number 0 apart) refl) apart

    module _ (passed : early ≡ 0) where
      pub sheet_odd : (length cuts % 8 ≡ 0 → ⊥) → {r : CutAnswer} → r ≡ record { refusal = 2; changed = 0 } → Gives r b answers changed
      unfolding sheet_refusal_over
      sheet_odd h = refused (rw (eq-eqb (length b) session_bytes whole, passed, ne_eqb (length cuts % 8) 0 h) refl) (λ z. absurd (omega arith))

      -- there is room
      pub sheet_room : Sheetable b cuts answers changed (asked_in (length cuts))
      sheet_room =
          let p = sheet_passed _ _ _ _ passed in
          record {
            whole = whole;
            roomy = record { most = p.0; asked = omega arith; answered = omega (arith, p.1) };
            listed = omega (arith, p.2);
          }

      pub sheet_all : length cuts % 8 ≡ 0 → {count : ℕ} {b' answers' changed' : List ℕ} → MadeOver b cuts (asked_in (length cuts)) answers changed count b' answers' changed'
          → Gives (record { refusal = 0; changed = count }) b' answers' changed'
      unfolding sheet_refusal_over sheet_answer bytes_after_sheet answers_after days_after
      sheet_all even d =
          rw (eq-eqb (length b) session_bytes whole, passed, eq-eqb (length cuts % 8) 0 even)
          (rw d.counted refl, (d.bytes, (d.answered, d.listed)))
