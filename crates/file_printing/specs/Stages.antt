-- A stage's answer, by what is opened. A reader may pass this page over.
use Rattle.std.specs.Prelude.{◌≡◌, Result, Ok, Err}
use Rattle.refusals.specs.declared.Refusal.{Refusal}
use Rattle.refusals.specs.Number.{refusal_number}
use Rattle.session.specs.Opening.{Opened}
use Rattle.session.specs.Showing.{SessionInBounds}
use Rattle.session.specs.declared.Session.{Session}

abbrev pub unrefused : Session → Opened
unrefused s = record { refusal = 0; session = s }

-- a stage gives the session, or the refusal
abbrev pub Gives : Result Session Refusal → Opened → Type 0
Gives (Ok s) o = (o ≡ unrefused s) × SessionInBounds s
Gives (Err refusal) o = o.refusal ≡ refusal_number refusal
