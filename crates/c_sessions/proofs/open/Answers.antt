-- `open` meets its contract: a law of Opening for each check that refuses, then what `open_lists` ensures.
use mathlib.Core.Path.{◌≡◌, sym}
use borrow.Author.Rules.{rules}
use Rattle.std.specs.Prelude.{Err}
use Rattle.refusals.proofs.Laws.{refused}
use Rattle.c_sessions.proofs.Opening.{not-session, lengths_wrong}
use Rattle.c_sessions.proofs.open.Goals as goal

pub returns-then-session-ne-SESSION_BYTES : goal.returns-then-session-ne-SESSION_BYTES
returns-then-session-ne-SESSION_BYTES c = let whole = not-session _ _ c.if-session-ne-SESSION_BYTES.true in record { value = whole.0; session_after = whole.1 }

pub returns-in_err-check_lengths : goal.returns-in_err-check_lengths
returns-in_err-check_lengths c =
    let e : c.from_residual.result ≡ Err c.in_err-check_lengths.field-0.0 = search rules in
    let whole = lengths_wrong _ _ c.if-session-ne-SESSION_BYTES.false c.in_err-check_lengths.ensures (refused c.in_err-check_lengths.field-0.0) in
    record { value = rw e whole.0; session_after = whole.1 }

pub open_lists-requires : goal.open_lists-requires
open_lists-requires c = (c.if-session-ne-SESSION_BYTES.false, sym c.in_ok-check_lengths.ensures)
