-- `show` meets its contract: a law of Shows for each return. Every level shown fits 16 bits, since the session is sane.
use mathlib.Core.Path.{refl, sym, ◌∙◌}
use Rattle.theory_lists.specs.Lent.{list-filled}
use Rattle.session.proofs.Shows.{first_short, second_short, both_long, left, total_seen}
use borrow.Author.Rules.{rules}
use native.Mathlib.Omega.{arith}
use Rattle.session.proofs.Session.show.Goals as goal
use Rattle.session.proofs.Session.show.Goals.{Else-ceilings-n}

pub returns-then-floors-n : goal.returns-then-floors-n
returns-then-floors-n c = record { value = first_short _ _ _ c.if-floors-n.true; floors_after = left _ _ _ refl; ceilings_after = left _ _ _ refl }

pub returns-then-ceilings-n : goal.returns-then-ceilings-n
returns-then-ceilings-n c = record { value = second_short _ _ _ c.if-ceilings-n.true; floors_after = left _ _ _ refl; ceilings_after = left _ _ _ refl }

pub decode_all-requires : goal.decode_all-requires
decode_all-requires c = let p = c.requires.present in (refl, omega (arith, p.most), search rules, λ k h. omega (arith, p.floor k h))

pub decode_all-requires-2 : goal.decode_all-requires-2
decode_all-requires-2 c = let p = c.requires.present in (refl, omega (arith, p.most), search rules, λ k h. omega (arith, p.ceiling k h))

pub returns : goal.returns
returns c =
    let p = c.requires.present in record {
      value = rw (total_seen c.decode.ensures p.lowest, total_seen c.decode-2.ensures p.highest)
          (both_long _ _ _ c.if-floors-n.false c.if-ceilings-n.false);
      floors_after = c.decode_all.ensures ∙
          sym (list-filled 0 _ _ _ refl);
      ceilings_after = c.decode_all-2.ensures ∙ sym (list-filled 0 _ _ _ refl);
    }
