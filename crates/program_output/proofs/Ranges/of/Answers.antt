-- `Ranges::of` meets its contract: with room for 512 days both lists are filled (`both_long`), and the totals are read back from their bits.
use Rattle.std.specs.Prelude.{Result, Ok, Err, IsOk}
use Rattle.std.proofs.Common.{◌≡◌, ◌∙◌, refl, ap, sym, length, replicate, arith}
use lib.IntN.{pos}
use lib.ListN.{length-replicate}
use Rattle.refusals.specs.declared.Refusal.{Refusal}
use borrow.Author.Rules.{rules}
use Rattle.refusals.specs.Number.{refusal_of}
use Rattle.refusals.proofs.Laws.{refused}
use Rattle.theory_lists.specs.Lent.{list-filled}
use Rattle.session.specs.Showing.{Shown, shown_as, total_floor, total_ceiling}
use Rattle.session.specs.declared.Session.{Session}
use Rattle.session.specs.declared.Shown as Code
use Rattle.session.proofs.Shows.{both_long, total_seen}
use Rattle.program_output.proofs.Ranges.of.Goals as goal
use Rattle.program_output.proofs.Ranges.of.Goals.{After-show, After-unwrap-shown}

abbrev all : Session → Shown
all s = record { refusal = 0; lowest = total_floor s; highest = total_ceiling s; spent = s.spent }

seen : (c : After-show) → shown_as c.show.result ≡ all c.args.session
seen c =
    let long : length (replicate 512 (pos 0)) ≡ 512 = length-replicate 512 (pos 0) in
    c.show.ensures.value ∙ sym (both_long c.args.session _ _ (omega (arith, long)) (omega (arith, long)))

number-told : (r : Result Code.Shown Refusal) → refusal_of r ≡ (shown_as r).refusal
number-told (Ok s) = refl
number-told (Err x) = refl

-- what shows without a refusal is given
given : (r : Result Code.Shown Refusal) → (shown_as r).refusal ≡ 0 → IsOk r
given (Ok s) e = refl
given (Err x) e = absurd (refused x e)

pub unwrap-shown-requires : goal.unwrap-shown-requires
unwrap-shown-requires c = given c.show.result (ap (λ (r : Shown). r.refusal) (seen (goal.at.unwrap-shown-requires c).After-show))

told : (c : After-unwrap-shown) → shown_as c.show.result ≡ all c.args.session → shown_as (Ok c.unwrap-shown.result) ≡ all c.args.session
told c h = let e : c.show.result ≡ Ok c.unwrap-shown.result = search rules in rw e at h

pub returns-clause-floors : goal.returns-clause-floors
returns-clause-floors c =
    let s = seen (goal.at.returns-clause-floors c).After-show in
    c.show.ensures.floors_after ∙ list-filled _ _ _ _ (number-told c.show.result ∙ ap (λ (r : Shown). r.refusal) s)

pub returns-clause-ceilings : goal.returns-clause-ceilings
returns-clause-ceilings c =
    let s = seen (goal.at.returns-clause-ceilings c).After-show in
    c.show.ensures.ceilings_after ∙ list-filled _ _ _ _ (number-told c.show.result ∙ ap (λ (r : Shown). r.refusal) s)

pub returns-clause-lowest : goal.returns-clause-lowest
returns-clause-lowest c =
    let at = goal.at.returns-clause-lowest c in
    total_seen (ap (λ (r : Shown). r.lowest) (told at.After-unwrap-shown (seen at.After-show))) c.requires.present.lowest

pub returns-clause-highest : goal.returns-clause-highest
returns-clause-highest c =
    let at = goal.at.returns-clause-highest c in
    total_seen (ap (λ (r : Shown). r.highest) (told at.After-unwrap-shown (seen at.After-show))) c.requires.present.highest
