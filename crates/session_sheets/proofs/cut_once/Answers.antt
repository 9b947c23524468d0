-- `cut_once` meets its contract: the list that is lent has as many places as the profile has days.
use mathlib.Core.Path.{sym}
use lib.Seq.{length-take-le}
use borrow.Author.Rules.{rules}
use Rattle.session_sheets.proofs.Laws.{one-cut}
use Rattle.session_sheets.proofs.cut_once.Goals as goal

pub slice_bounds-cut_asked-end : goal.slice_bounds-cut_asked-end
slice_bounds-cut_asked-end c = sym (length-take-le _ _ (search rules))

pub returns : goal.returns
returns c =
    one-cut c.args.after.session c.args.asked.cut c.requires c.cut_asked.ensures.value (length-take-le _ _ c.requires.present.most)
