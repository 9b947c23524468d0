-- `cut` meets its contract: a law for each return, by whether the bytes are a session's and the kind is known.
use mathlib.Core.Path.{◌≡◌, refl}
use Rattle.session_cuts.specs.Numbered.{numbered}
use native.Mathlib.Omega.{arith}
use mir.Facts.{to_z-of_z}
use Rattle.session_cutting.proofs.Stages.{numbered-known, numbered_unknown}
use Rattle.c_sessions.proofs.Cutting.{cuts-same, cuts-refused, cut_unread, cut-read}
use Rattle.c_sessions.proofs.cut.Goals as goal
use Rattle.c_sessions.proofs.cut.Goals.{After-numbered}

pub returns-then-session-ne-SESSION_BYTES : goal.returns-then-session-ne-SESSION_BYTES
returns-then-session-ne-SESSION_BYTES c = let whole = cut_unread _ _ _ c.if-session-ne-SESSION_BYTES.true refl in record { value = whole.0; session_after = whole.1.0; changed_after = whole.1.1 }

tells : (c : After-numbered) → let a = c.args in c.numbered.result ≡ numbered a.kind a.day a.value
tells c = rw (to_z-of_z c.ranges.value) at c.numbered.ensures

pub returns-in_default : goal.returns-in_default
returns-in_default c = let whole = cut-read _ _ _ c.if-session-ne-SESSION_BYTES.false
    (cuts-same _ _ (numbered_unknown _ _ (tells (goal.at.returns-in_default c).After-numbered) c.in_default.is)
    (cuts-refused _ _ _ (λ z. absurd (omega arith)) (λ z. absurd (omega arith)) refl)) in
    record { value = whole.0; session_after = whole.1.0; changed_after = whole.1.1 }

pub returns : goal.returns
returns c = let whole = cut-read _ _ _ c.if-session-ne-SESSION_BYTES.false
    (cuts-same _ _ (numbered-known _ _ (tells (goal.at.returns c).After-numbered) c.in-Some.is)
    (c.cut_known.ensures.value, (c.cut_known.ensures.session_after, c.cut_known.ensures.changed_after))) in
    record { value = whole.0; session_after = whole.1.0; changed_after = whole.1.1 }
