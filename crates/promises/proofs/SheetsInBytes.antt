-- A sheet of cuts over C holds what is promised: the bytes that it leaves are those of the single calls, and of its lists the same is said as by value.
use Rattle.std.specs.Prelude.{Option}
use mathlib.Core.Path.{◌≡◌, refl, sym, ap, ◌∙◌}
use mathlib.Core.Bool.{Bool, true, false, cond, true≢false}
use mathlib.Core.List.{List, [], ◌∷◌, ◌++◌}
use Prim.Native.Nat.{ℕ, zero, suc, ◌+◌, ◌*◌, ◌/◌, ◌%◌, ◌<◌}
use native.Mathlib.Omega.{arith}
use lib.Dec.{eqb, ltb}
use lib.ListN.{length, length-append}
use borrow.Author.Tests.{eq-eqb, ne_eqb, eqb-true, eqb-false}
use Rattle.limits.specs.Limits.{most_cuts}
use Rattle.theory_lists.specs.ListOf.{list_of, list_of-same}
use Rattle.theory_lists.specs.Rows.{rows, length-rows}
use Rattle.theory_lists.specs.Front.{in_front}
use Rattle.theory_lists.specs.Part.{Part, part_left, part_right, part_front, part_row}
use Rattle.base_little_endian.specs.Fields.{u16_at, u16_bytes}
use Rattle.base_little_endian.proofs.Laws.{u16-length, u16-read}
use Rattle.session.specs.Profile.{Profile}
use Rattle.session.specs.declared.Session.{Session}
use Rattle.session_order.specs.Order.{day_cells}
use Rattle.session_cutting.specs.Cutting.{CutAnswer}
use Rattle.session_sheets.specs.Sheets.{after_cuts, answer_on, sheet_refusal, sheet_days}
use Rattle.session_sheets.proofs.Laws.{after_kept, after-spent, after_narrows}
use Rattle.file_format.specs.Format.{cut_length}
use Rattle.c_layout.specs.Layout.{encoding, decoding, patched}
use Rattle.c_layout.specs.Storing.{Storable}
use Rattle.c_layout.proofs.Inverse.{decoding-encoding}
use Rattle.c_layout.proofs.Patching.{patched-kept}
use Rattle.c_sessions.specs.Sessions.{is_session, bytes_cut, cut_answer}
use Rattle.c_sessions.proofs.Encoded.{encoded}
use Rattle.c_sheets.specs.Sheets.{
  asked_at,
  answer_length,
  answer_bytes,
  answers_bytes,
  end_of,
  sheet_refusal_over,
  sheet_answer,
  sheet_bytes,
  bytes_after_sheet,
  answers_after,
  days_after,
}
use Rattle.promises.specs.Cuts.{CutCall, after}
use Rattle.promises.specs.InBytes.{ByteCutCall, calls_by_value, bytes_after, CameFrom}
use Rattle.promises.specs.Sheets.{SheetRefused, calls_of}
use Rattle.promises.specs.SheetsInBytes.{LentSheet, sheet_given, sheet_left, sheet_count, session_in, SheetRefusedOver, NoCutOver, calls_in, answer_at, SheetTaken, SheetsInBytes}
use Rattle.promises.proofs.Bytes.{Came, came, follow}
use Rattle.promises.proofs.Changed.{front_stays, bytes-changed}
use Rattle.promises.proofs.Demands.{days}
use Rattle.promises.proofs.Sheets.{after-calls, refusals, by_refusal}
use Rattle.session_cuts.specs.declared.Cut.{Cut}

-- ---- the refusal, whatever the bytes

else_two : (n m answers changed : ℕ) → let refusal : ℕ = sheet_refusal n m answers changed in (refusal ≡ 0 → ⊥) → (refusal ≡ 1 → ⊥) → (refusal ≡ 14 → ⊥) → refusal ≡ 2
unfolding sheet_refusal
else_two n m answers changed = go (ltb most_cuts m) (ltb answers m) (ltb changed n)
  where
    go : (a b c : Bool) → let refusal : ℕ = cond a 1 (cond b 14 (cond c 2 0)) in (refusal ≡ 0 → ⊥) → (refusal ≡ 1 → ⊥) → (refusal ≡ 14 → ⊥) → refusal ≡ 2
    go true b c h i j = absurd (i refl)
    go false true c h i j = absurd (j refl)
    go false false true h i j = refl
    go false false false h i j = absurd (h refl)

module _ (t : LentSheet) where
  abbrev early : ℕ
  early = sheet_refusal (session_in t).days (sheet_count t) (length t.answers / answer_length) (length t.days / 2)

  abbrev refusal : ℕ
  refusal = sheet_refusal_over t.session (length t.cuts) (length t.answers) (length t.days)

  refused_with_lem : SheetRefusedOver t refusal
  unfolding sheet_refusal_over
  refused_with_lem = go (is_session t.session) (eqb early 0) (eqb (length t.cuts % cut_length) 0) refl refl refl
    where
      checks : SheetRefused (session_in t).days (sheet_count t) (length t.answers / answer_length) (length t.days / 2) early
      checks = refusals (session_in t).days (sheet_count t) (length t.answers / answer_length) (length t.days / 2)

      go : (a b c : Bool) → is_session t.session ≡ a → eqb early 0 ≡ b → eqb (length t.cuts % cut_length) 0 ≡ c → SheetRefusedOver t (cond a (cond b (cond c 0 2) early) 2)
      go false b c e f g =
          record {
            one = (λ z. absurd (omega arith), λ h. absurd (true≢false (sym h.0 ∙ e)));
            fourteen = (λ z. absurd (omega arith), λ h. absurd (true≢false (sym h.0 ∙ e)));
            none = (λ z. absurd (omega arith), λ h. absurd (true≢false (sym h.0 ∙ e)));
            two = λ h i j. refl;
          }
      go true false c e f g =
          let some = eqb-false early 0 f in
          record {
            one = (λ z. (e, checks.one.0 z), λ h. checks.one.1 h.1);
            fourteen = (λ z. (e, (checks.fourteen.0 z).0, omega (arith, (checks.fourteen.0 z).1)), λ h. checks.fourteen.1 (h.1, omega (arith, h.2)));
            none = (λ z. absurd (some z), λ h. absurd (some (checks.none.1 (h.1, omega (arith, h.2), omega (arith, h.3)))));
            two = else_two _ _ _ _;
          }
      go true true true e f g =
          let room = checks.none.0 (eqb-true early 0 f) in
          record {
            one = (λ z. absurd (omega arith), λ h. absurd (omega (arith, room.0, h.1)));
            fourteen = (λ z. absurd (omega arith), λ h. absurd (omega (arith, room.1, h.2)));
            none = (λ z. (e, room.0, omega (arith, room.1), omega (arith, room.2), omega (arith, eqb-true (length t.cuts % cut_length) 0 g)), λ h. refl);
            two = λ h i j. absurd (h refl);
          }
      go true true false e f g =
          let room = checks.none.0 (eqb-true early 0 f) in
          record {
            one = (λ z. absurd (omega arith), λ h. absurd (omega (arith, room.0, h.1)));
            fourteen = (λ z. absurd (omega arith), λ h. absurd (omega (arith, room.1, h.2)));
            none = (λ z. absurd (omega arith), λ h. absurd (eqb-false (length t.cuts % cut_length) 0 g (omega (arith, h.4))));
            two = λ h i j. refl;
          }

  by_checks : (P : CutAnswer → Type 0) → (refusal ≡ 0 → P (record { refusal = 0; changed = length (sheet_days (session_in t) (end_of t.session t.cuts)) }))
      → ((refusal ≡ 0 → ⊥) → P (record { refusal = refusal; changed = 0 })) → P (sheet_given t)
  unfolding sheet_answer
  by_checks P = by_refusal P refusal

  says : (sheet_given t).refusal ≡ refusal
  says = by_checks (λ a. a.refusal ≡ refusal) (λ z. sym z) (λ h. refl)

  no_cut : ((sheet_given t).refusal ≡ 0 → ⊥) → NoCutOver t
  unfolding bytes_after_sheet answers_after days_after
  no_cut h =
      record {
        bytes = rw (ne_eqb (sheet_given t).refusal 0 h) refl;
        changed = by_checks (λ a. (a.refusal ≡ 0 → ⊥) → a.changed ≡ 0) (λ z k. absurd (k refl)) (λ k l. refl) h;
      }

-- ---- single calls

by_value_list : (g : ℕ → ByteCutCall) (j : ℕ) → calls_by_value (list_of g j) ≡ list_of (λ k. record { cut = (g k).cut; room = (g k).bytes / 2 }) j
unfolding list_of
by_value_list g zero = refl
by_value_list g (suc j) = ap (λ (hs : List CutCall). record { cut = (g 0).cut; room = (g 0).bytes / 2 } ∷ hs) (by_value_list (λ k. g (suc k)) j)

bytes_append : (b : List ℕ) (hs gs : List ByteCutCall) → bytes_after b (hs ++ gs) ≡ bytes_after (bytes_after b hs) gs
bytes_append b [] gs = refl
bytes_append b (h ∷ hs) gs = bytes_append (bytes_cut b h.cut h.bytes) hs gs

-- ---- answers, read back

answer-length : (a : CutAnswer) → length (answer_bytes a) ≡ answer_length
unfolding answer_bytes
answer-length a = omega (arith, length-append (u16_bytes a.refusal) (u16_bytes a.changed), u16-length a.refusal, u16-length a.changed)

answer-read : (f : ℕ → CutAnswer) (m : ℕ) (l : List ℕ) (j : ℕ) → j < m → answer_at (in_front (rows (λ k. answer_bytes (f k)) m) l) j ≡ f j
unfolding answer_bytes
answer-read f m l j h =
    let z : 0 + j * answer_length ≡ j * answer_length = omega arith in
    let out : List ℕ = in_front (rows (λ k. answer_bytes (f k)) m) l in
    let part : Part out (j * answer_length) (answer_bytes (f j)) = rw z at (part_row (λ k. answer_bytes (f k)) answer_length m (λ k u. answer-length (f k)) (part_front (rows (λ k. answer_bytes (f k)) m) l) j h) in
    let first : u16_at out (j * answer_length) ≡ (f j).refusal = u16-read (f j).refusal (part_left (u16_bytes (f j).refusal) (u16_bytes (f j).changed) (u16-length (f j).refusal) part) in
    let second : u16_at out (j * answer_length + 2) ≡ (f j).changed = u16-read (f j).changed (part_right (u16_bytes (f j).refusal) (u16_bytes (f j).changed) (u16-length (f j).refusal) part) in
    λ i. record { refusal = first i; changed = second i }

-- ---- a sheet that is taken

module _ (p : Profile) (hs : List ByteCutCall) (t : LentSheet) (c : CameFrom p hs t.session) where
  w : Came p hs t.session
  w = came p hs t.session c

  abbrev s : Session
  s = session_in t

  abbrev f : ℕ → Option Cut
  f = asked_at t.cuts

  abbrev end : Session
  end = after_cuts s f (sheet_count t)

  abbrev single : ℕ → List ByteCutCall
  single = calls_in t

  -- by value, and the bytes after the first j
  by_value_single : (j : ℕ) → calls_by_value (single j) ≡ calls_of f s.days j
  by_value_single j = by_value_list _ j ∙ list_of-same _ _ j (λ k h. ap (λ room. record { cut = f k; room = room }) (omega arith))

  after_single : (j : ℕ) → after s (calls_by_value (single j)) ≡ after_cuts s f j
  after_single j = ap (after s) (by_value_single j) ∙ after-calls s f j

  storable : (j : ℕ) → Storable (after_cuts s f j)
  storable j = rw (after_single j) at (follow s (single j) w.storable).1

  bytes_single : (j : ℕ) → bytes_after t.session (single j) ≡ encoding (after_cuts s f j)
  bytes_single j = ap (λ b. bytes_after b (single j)) w.back ∙ (follow s (single j) w.storable).0 ∙ ap encoding (after_single j)

  single_answer : (j : ℕ) → cut_answer (bytes_after t.session (single j)) (f j) (s.days * 2) ≡ answer_on s f j
  unfolding cut_answer
  single_answer j =
      let half : s.days * 2 / 2 ≡ s.days = omega arith in
      rw (bytes_single j, encoded (after_cuts s f j) (storable j), decoding-encoding (after_cuts s f j) (storable j), half) refl

  -- the bytes that it stores
  stored : sheet_bytes t.session end ≡ encoding end
  unfolding sheet_bytes
  stored = go s.spent refl
    where
      go : (b : Bool) → s.spent ≡ b → cond b t.session (patched t.session end.days end.spent end.present) ≡ encoding end
      go true u = w.back ∙ ap encoding (sym (after-spent s f (sheet_count t) u))
      go false u =
          let kept = after_kept s f (sheet_count t) in
          ap (λ b. patched b end.days end.spent end.present) w.back ∙ patched-kept s end w.storable kept.days kept.first kept.rises kept.opened

  module _ (z : (sheet_given t).refusal ≡ 0) where
    left : (sheet_left t).session ≡ encoding end
    unfolding bytes_after_sheet
    left = rw (eq-eqb (sheet_given t).refusal 0 z) stored

    held : decoding (sheet_left t).session ≡ end
    held = ap decoding left ∙ decoding-encoding end (storable (sheet_count t))

    answers : (sheet_left t).answers ≡ in_front (answers_bytes s t.cuts (sheet_count t)) t.answers
    unfolding answers_after
    answers = rw (eq-eqb (sheet_given t).refusal 0 z) refl

    list : (sheet_left t).days ≡ in_front (day_cells (sheet_days s end)) t.days
    unfolding days_after
    list = rw (eq-eqb (sheet_given t).refusal 0 z) refl

    number : (sheet_given t).changed ≡ length (sheet_days s end)
    number = by_checks t (λ a. a.refusal ≡ 0 → a.changed ≡ length (sheet_days s end)) (λ h k. refl) (λ h k. absurd (h k)) z

    taken : SheetTaken p hs t
    unfolding in_front day_cells rows
    taken =
        let room = (refused_with_lem t).none.0 (sym (says t) ∙ z) in
        let session = left ∙ sym (bytes_single (sheet_count t)) in
        let wide = length-rows (λ j. answer_bytes (answer_on s f j)) answer_length (sheet_count t) (λ j h. answer-length (answer_on s f j)) in
        record {
          session = session;
          came = record {
            lent = c.lent;
            handed = c.handed;
            entered = c.entered;
            accepted = c.accepted;
            bytes = session ∙ ap (λ b. bytes_after b (single (sheet_count t))) c.bytes ∙ sym (bytes_append _ hs (single (sheet_count t)));
          };
          roomy = days p hs t.session c;
          answer = λ j h. rw answers (answer-read (answer_on s f) (sheet_count t) t.answers j h) ∙ sym (single_answer j);
          past = rw answers (front_stays (answers_bytes s t.cuts (sheet_count t)) t.answers (sym wide) (omega (arith, wide, room.2)));
          unspent = rw held (λ u. bytes-changed s end (number ∙ rw u refl) (list ∙ rw u refl) (omega (arith, room.3)) (after_narrows s f (sheet_count t) w.storable.bounds u));
          spent = rw held (λ u. (number ∙ rw u refl, list ∙ rw u refl));
        }

pub sheets_in_bytes : SheetsInBytes
sheets_in_bytes = record { refusal = λ t. rw (says t) (refused_with_lem t); refused = no_cut; taken = taken }
