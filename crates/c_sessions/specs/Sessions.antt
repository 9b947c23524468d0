-- What calls on a session's bytes give: what the functions on sessions by value give for the session that the bytes hold. A session's bytes of another length are
-- refused with 2 before all else. Lists are given as they are, or by their counts of bytes, of which an odd last one counts for nothing where a list may be
-- longer than its elements ask.
use Rattle.std.specs.Prelude.{Bool, cond, ◌||◌, List, ℕ, ◌/◌, ℤ, eqb, length, Option}
use Rattle.theory_lists.specs.Front.{in_front}
use Rattle.session.specs.Opening.{opened}
use Rattle.session.specs.Showing.{shown, list_too_short, Shown}
use Rattle.session.specs.declared.Session.{Session}
use Rattle.session_order.specs.Order.{day_cells}
use Rattle.session_cutting.specs.Cutting.{changed_days, after_numbered, AfterCut, CutAnswer}
use Rattle.c_lists.specs.Profiles.{ByteProfile, byte_length_refusal, profile_of}
use Rattle.c_layout.specs.Layout.{session_bytes, encoding, decoding, patched}
use Rattle.session_cuts.specs.declared.Cut.{Cut}

abbrev pub is_session : List ℕ → Bool
is_session b = eqb (length b) session_bytes

-- ---- opening

unfoldable pub open_refusal : List ℕ → ByteProfile → ℕ
open_refusal b h =
    let lengths : ℕ = byte_length_refusal h in
    cond (is_session b) (cond (eqb lengths 0) (opened (profile_of h)).refusal lengths) 2

-- the session's bytes afterwards: as they were beside a refusal
unfoldable pub bytes_opened : List ℕ → ByteProfile → List ℕ
bytes_opened b h = cond (eqb (open_refusal b h) 0) (encoding (opened (profile_of h)).session) b

-- ---- cutting, where the list for changed days has that many bytes

-- the session's bytes afterwards, by what the cut gives for the session that they hold: as they were beside a refusal other than 8, else with the patch that the
-- cut makes
unfoldable pub bytes_for : List ℕ → AfterCut → List ℕ
bytes_for b a =
    let refusal : ℕ = a.answer.refusal in
    let s : Session = a.session in
    cond (eqb refusal 0 || eqb refusal 8) (patched b s.days s.spent s.present) b

-- the list afterwards: as it was beside a refusal, else with the changed days at its front
unfoldable pub list_for : List ℕ → AfterCut → List ℕ → List ℕ
list_for b a l = cond (eqb a.answer.refusal 0) (in_front (day_cells (changed_days (decoding b).days (decoding b).present a.session.present)) l) l

unfoldable pub cut_answer : List ℕ → Option Cut → ℕ → CutAnswer
cut_answer b t list = cond (is_session b) (after_numbered (decoding b) t (list / 2)).answer (record { refusal = 2; changed = 0 })

unfoldable pub bytes_cut : List ℕ → Option Cut → ℕ → List ℕ
bytes_cut b t list = cond (is_session b) (bytes_for b (after_numbered (decoding b) t (list / 2))) b

unfoldable pub changed_bytes : List ℕ → Option Cut → List ℕ → List ℕ
changed_bytes b t l = cond (is_session b) (list_for b (after_numbered (decoding b) t (length l / 2)) l) l

-- ---- showing, with lists of that many bytes

unfoldable pub shown_over : List ℕ → ℕ → ℕ → Shown
shown_over b floors ceilings = cond (is_session b) (shown (decoding b) (floors / 2) (ceilings / 2)) list_too_short

-- what showing gives, with a number for whether the session is spent: 1, or 0
pub record Marked : Type 0 where
  pub refusal : ℕ
  pub lowest : ℤ
  pub highest : ℤ
  pub spent : ℕ

abbrev pub marked : Shown → Marked
marked s = record { refusal = s.refusal; lowest = s.lowest; highest = s.highest; spent = cond s.spent 1 0 }
