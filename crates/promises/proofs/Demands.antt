-- The demands over C: what holds of a session by value holds of the bytes that came from opening and cuts.
use Rattle.std.specs.Prelude.{Option, Some}
use mathlib.Core.Path.{◌≡◌, refl, sym, ap, ◌∙◌, subst}
use mathlib.Core.Bool.{Bool, true, false, cond, ◌||◌}
use mathlib.Core.Logic.{◌↔◌}
use mathlib.Core.List.{List, [], ◌∷◌, ◌++◌}
use Prim.Native.Nat.{ℕ, ◌/◌, ◌≤◌, ◌<◌}
use native.Mathlib.Omega.{arith}
use lib.IntN.{ℤ}
use lib.Dec.{eqb, ltb}
use lib.ListN.{length}
use borrow.Author.Tests.{eq-eqb, ne_eqb, eqb-false, ltb-false}
use mir.Syntax.{w16}
use mir.Val.{SFits}
use Rattle.theory_lists.specs.Sum.{at}
use Rattle.theory_lists.specs.Front.{in_front}
use Rattle.theory_lists.specs.Rows.{rows}
use Rattle.session.specs.Profile.{Profile, Schedule, Spans}
use Rattle.session.specs.Opening.{early_opening, opened}
use Rattle.session.specs.Showing.{floor_on, ceiling_on, total_floor, total_ceiling, list_too_short, shown, Shown}
use Rattle.session.specs.declared.Session.{Session}
use Rattle.session.proofs.Shows.{both_long}
use Rattle.session_cuts.specs.declared.Cut.{Cut}
use Rattle.session_order.specs.Order.{day_cells}
use Rattle.session_cutting.specs.Cutting.{spend, changed_days, early_numbered, after_numbered, AfterCut}
use Rattle.session_cutting.proofs.Laws.{Accepted, numbered-accepted, numbered_narrows}
use Rattle.promises.specs.Cuts.{WellFormed, Looser, CutCall, Kept}
use Rattle.promises.specs.Demands.{Exact}
use Rattle.promises.proofs.Changed.{bytes-changed}
use Rattle.promises.proofs.Demand2.{demand_2, unrefused}
use Rattle.promises.proofs.Demand3.{demand_3}
use Rattle.promises.proofs.After.{after-days}
use Rattle.promises.proofs.LooserCuts.{looser-cuts}
use Rattle.promises.proofs.NoneAtCut.{none_at_cut}
use Rattle.c_lists.specs.Profiles.{have_lengths, byte_counts_refusal, byte_length_refusal, profile_of}
use Rattle.c_lists.proofs.Laws.{points_left}
use Rattle.c_layout.specs.Layout.{encoding, decoding}
use Rattle.c_sessions.specs.Sessions.{is_session, open_refusal, bytes_opened, bytes_for, list_for, cut_answer, bytes_cut, changed_bytes, shown_over}
use Rattle.promises.specs.InBytes.{ByteCutCall, calls_by_value, CameFrom}
use Rattle.promises.specs.DemandsInBytes.{BytesLeft, Changed, ListedBytes, Unchanged, AfterBytes, read_ranges, Read, Reading, NoneAtOpening, NoneAtCutOver, DemandsInBytes}
use Rattle.promises.proofs.Bytes.{Came, came, cut-held}
use Rattle.promises.proofs.Points.{point_fits, lent_point, lent-rest}

-- ---- demand 1

cut_leaves_list : (b : List ℕ) (t : Option Cut) (l : List ℕ) → ((cut_answer b t (length l)).refusal ≡ 0 → ⊥) → changed_bytes b t l ≡ l
unfolding cut_answer changed_bytes list_for
cut_leaves_list b t l = go (is_session b)
  where
    a : AfterCut
    a = after_numbered (decoding b) t (length l / 2)

    go : (x : Bool) → ((cond x a.answer (record { refusal = 2; changed = 0 })).refusal ≡ 0 → ⊥) → cond x (list_for b a l) l ≡ l
    go true h = rw (ne_eqb a.answer.refusal 0 h) refl
    go false h = refl

cut_leaves_bytes : (b : List ℕ) (t : Option Cut) (list : ℕ) → ((cut_answer b t list).refusal ≡ 0 → ⊥) → ((cut_answer b t list).refusal ≡ 8 → ⊥) → bytes_cut b t list ≡ b
unfolding cut_answer bytes_cut bytes_for
cut_leaves_bytes b t list = go (is_session b)
  where
    a : AfterCut
    a = after_numbered (decoding b) t (list / 2)

    go : (x : Bool) → ((cond x a.answer (record { refusal = 2; changed = 0 })).refusal ≡ 0 → ⊥)
        → ((cond x a.answer (record { refusal = 2; changed = 0 })).refusal ≡ 8 → ⊥) → cond x (bytes_for b a) b ≡ b
    go true h k = rw (ne_eqb a.answer.refusal 0 h, ne_eqb a.answer.refusal 8 k) refl
    go false h k = refl

refused : BytesLeft
unfolding bytes_opened
refused =
    record {
      opening = λ b p h. rw (ne_eqb (open_refusal b p) 0 h) refl;
      list = cut_leaves_list;
      session = λ b t l. cut_leaves_bytes b t (length l);
      reading = λ b fs cs h. (points_left _ _ _ fs h, points_left _ _ _ cs h);
    }

-- ---- 8 at opening

lengths_never_8 : (n floors ceilings rises : ℕ) → byte_counts_refusal n floors ceilings rises ≡ 8 → ⊥
unfolding byte_counts_refusal
lengths_never_8 n floors ceilings rises = go (eqb n 0 || ltb 512 n) (have_lengths n floors ceilings rises)
  where
    go : (a b : Bool) → ◌≡◌ {A = ℕ} (cond a 1 (cond b 0 2)) 8 → ⊥
    go true b e = omega arith
    go false true e = omega arith
    go false false e = omega arith

none_at_opening : NoneAtOpening
unfolding open_refusal
none_at_opening b handed = go (is_session b) (eqb lengths 0) refl
  where
    p : Profile
    p = profile_of handed

    lengths : ℕ
    lengths = byte_length_refusal handed

    go : (a c : Bool) → eqb lengths 0 ≡ c
        → (cond a (cond c (opened p).refusal lengths) 2 ≡ 8) ↔ (cond a (cond c (early_opening p) lengths) 2 ≡ 0) × ((x : List ℤ) → Schedule p x → ⊥)
    go true true e = demand_2.none p
    go true false e = (λ h. absurd (lengths_never_8 _ _ _ _ h), λ h. absurd (eqb-false lengths 0 e h.0))
    go false c e = (λ h. absurd (omega arith), λ h. absurd (omega (arith, h.0)))

-- ---- sessions from opening and cuts

by_value_more : (hs : List ByteCutCall) (h : ByteCutCall) → calls_by_value (hs ++ h ∷ []) ≡ calls_by_value hs ++ record { cut = h.cut; room = h.bytes / 2 } ∷ []
by_value_more [] h = refl
by_value_more (g ∷ hs) h = ap (λ (gs : List CutCall). record { cut = g.cut; room = g.bytes / 2 } ∷ gs) (by_value_more hs h)

same-range : {S : List ℤ → Type 0} {f : List ℤ → ℤ} {low high lo hi : ℤ} → low ≡ lo → high ≡ hi → Spans S f lo hi → Spans S f low high
same-range e d x = rw (e, d) x

-- reading with lists that are long enough
shown-whole : (s : Session) (a c : ℕ) → (shown s a c).refusal ≡ 0 → (s.days ≤ a) × (s.days ≤ c)
unfolding shown
shown-whole s a c = go (ltb a s.days) (ltb c s.days) refl refl
  where
    go : (x y : Bool) → ltb a s.days ≡ x → ltb c s.days ≡ y
        → (cond (x || y) list_too_short (record { refusal = 0; lowest = total_floor s; highest = total_ceiling s; spent = s.spent })).refusal ≡ 0 → (s.days ≤ a) × (s.days ≤ c)
    go true y e f z = absurd (omega arith)
    go false true e f z = absurd (omega arith)
    go false false e f z = (ltb-false a s.days e, ltb-false c s.days f)

module _ (p : Profile) (hs : List ByteCutCall) (b : List ℕ) (c : CameFrom p hs b) where
  w : Came p hs b
  w = came p hs b c

  after : AfterBytes p hs b
  after =
      let d = demand_3 p w.opens (calls_by_value hs) in
      record {
        spent = rw w.held d.spent;
        as_opened = λ u. w.bytes ∙ ap encoding (d.as_opened (rw w.held at u));
        exact = rw w.held d.exact;
        order-free = λ gs a k v. w.bytes ∙ ap encoding (d.order-free (calls_by_value gs) v) ∙ sym (came p gs a k).bytes;
      }

  -- a spent session is the opened one, marked spent
  spent_as : (decoding b).spent ≡ true → decoding b ≡ spend (opened p).session
  spent_as u = w.held ∙ (demand_3 p w.opens (calls_by_value hs)).as_opened (rw w.held at u)

  pub days : (decoding b).days ≡ p.days
  days = rw w.held (after-days p w.opens (calls_by_value hs))

  exact-spent : (decoding b).spent ≡ true → Exact p (Schedule p) (decoding b)
  exact-spent u =
      let o = (unrefused p w.opens).session in
      let x = rw o at (demand_2.opening p w.opens) in
      rw (spent_as u, o) (record { each = x.each; sum = x.sum })

  none_at_cut-over : (h : ByteCutCall) → NoneAtCutOver p hs b h
  unfolding cut_answer
  none_at_cut-over h =
      subst (λ gs. ((cut_answer b h.cut h.bytes).refusal ≡ 8) ↔ (early_numbered (decoding b) h.cut (h.bytes / 2) ≡ 0) × ((x : List ℤ) → Kept p gs x → ⊥)) (sym (by_value_more hs h))
      (rw w.sized (none_at_cut p w.opens (calls_by_value hs) (decoding b) w.held (record { cut = h.cut; room = h.bytes / 2 })))

  -- ---- reading

  module _ (fs cs : List ℕ) where
    shows : read_ranges b fs cs ≡ shown (decoding b) (length fs / 2) (length cs / 2)
    unfolding shown_over
    shows = rw w.sized refl

    module _ (z : (read_ranges b fs cs).refusal ≡ 0) where
      long : ((decoding b).days ≤ length fs / 2) × ((decoding b).days ≤ length cs / 2)
      long = shown-whole (decoding b) (length fs / 2) (length cs / 2) (rw shows at z)

      whole : read_ranges b fs cs ≡ record { refusal = 0; lowest = total_floor (decoding b); highest = total_ceiling (decoding b); spent = (decoding b).spent }
      whole = shows ∙ sym (both_long (decoding b) (length fs / 2) (length cs / 2) long.0 long.1)

      read : (S : List ℤ → Type 0) → Exact p S (decoding b) → Read p S b fs cs
      read S x =
          let fits = w.storable.bounds.present in
          let low : (k : ℕ) → k < (decoding b).days → SFits w16 (floor_on (decoding b) k) = λ k h. point_fits (at (decoding b).present.floors k) (fits.floor k h) in
          let high : (k : ℕ) → k < (decoding b).days → SFits w16 (ceiling_on (decoding b) k) = λ k h. point_fits (at (decoding b).present.ceilings k) (fits.ceiling k h) in
          record {
            each = λ i h.
                let k : i < (decoding b).days = rw days h in
                same-range (lent_point _ (floor_on (decoding b)) (decoding b).days fs z low i k) (lent_point _ (ceiling_on (decoding b)) (decoding b).days cs z high i k) (x.each i h);
            sum = same-range (ap (λ (r : Shown). r.lowest) whole) (ap (λ (r : Shown). r.highest) whole) x.sum;
          }

    reading : Reading p hs b fs cs
    reading =
        record {
          taken = (λ z. rw (← days) (long z), λ h. ap (λ (r : Shown). r.refusal) (shows ∙ sym (both_long (decoding b) (length fs / 2) (length cs / 2) (rw days h.0) (rw days h.1))));
          spent = λ z. rw (whole z) after.spent;
          present = λ z u. read z (Kept p (calls_by_value hs)) (after.exact (rw (whole z) at u));
          opened = λ z u. read z (Schedule p) (exact-spent (rw (whole z) at u));
          rest = λ i h. (lent-rest _ (floor_on (decoding b)) (decoding b).days fs i (rw days h), lent-rest _ (ceiling_on (decoding b)) (decoding b).days cs i (rw days h));
        }

  -- ---- changed days

  module _ (t : Option Cut) (l : List ℕ) where
    abbrev r : AfterCut
    r = after_numbered (decoding b) t (length l / 2)

    answers : cut_answer b t (length l) ≡ r.answer
    unfolding cut_answer
    answers = rw w.sized refl

    abbrev listed : List ℕ
    listed = changed_days (decoding b).days (decoding b).present r.session.present

    module _ (z : r.answer.refusal ≡ 0) where
      accepted : Accepted (decoding b) (length l / 2) r
      accepted = numbered-accepted (decoding b) t (length l / 2) z

      front : changed_bytes b t l ≡ in_front (day_cells listed) l
      unfolding changed_bytes list_for
      front = rw (w.sized, eq-eqb r.answer.refusal 0 z) refl

      changed : ListedBytes (decoding b) (decoding (bytes_cut b t (length l))) (cut_answer b t (length l)).changed l (changed_bytes b t l)
      changed =
          rw (answers, (cut-held p hs b c t (length l)).after-held)
          (bytes-changed (decoding b) r.session accepted.counted front accepted.roomy
          (numbered_narrows (decoding b) t (length l / 2) w.storable.bounds z))

  changed-over : (t : Option Cut) (l : List ℕ) → (cut_answer b t (length l)).refusal ≡ 0 → Changed b t l
  changed-over t l z =
      let d = changed t l (rw (answers t l) at z) in
      record { listed = d.days.listed; once = d.days.once; order = d.order; rest = d.past.rest; long = d.past.long }

  looser : (decoding b).spent ≡ false → (e : Cut) → WellFormed p e → Looser (decoding b) e → (l : List ℕ) → p.days ≤ length l / 2 → Unchanged b (Some e) l
  unfolding after_numbered day_cells in_front rows
  looser u e f k l room =
      let by_value = looser-cuts p w.opens (calls_by_value hs) (decoding b) w.held u e f k (length l / 2) room in
      let z : (r (Some e) l).answer.refusal ≡ 0 = ap (λ (a : AfterCut). a.answer.refusal) by_value in
      let none : length (listed (Some e) l) ≡ 0 = sym (accepted (Some e) l z).counted ∙ ap (λ (a : AfterCut). a.answer.changed) by_value in
      record {
        answer = answers (Some e) l ∙ ap (λ (a : AfterCut). a.answer) by_value;
        session = (cut-held p hs b c (Some e) (length l)).after-bytes ∙ ap (λ (a : AfterCut). encoding a.session) by_value ∙ sym w.back;
        list = front (Some e) l z ∙ rw none refl;
      }

pub demands_in_bytes : DemandsInBytes
demands_in_bytes =
    record {
      refused = refused;
      none = none_at_opening;
      after = after;
      read = reading;
      none_at_cut = none_at_cut-over;
      changed = changed-over;
      looser = looser;
    }
