use Rattle.file_format.proofs.Parts.{cut-length}
use Rattle.theory_lists.specs.Rows.{stored_all, even_none, even_more}
use borrow.Author.Rules.{rules}
use Rattle.file_parts.proofs.put_entries.Goals as goal

pub loop-j-init : goal.loop-j-init
loop-j-init c = even_none 8

pub put_entry-requires : goal.put_entry-requires
put_entry-requires c = (c.requires.2 c.loop-j.j c.loop-j-test.true, search rules)

pub loop-j-preserved : goal.loop-j-preserved
loop-j-preserved c =
    even_more 8 (λ k. cut-length _) c.loop-j.invariant c.loop-j-test.true c.put_entry.ensures

pub returns : goal.returns
returns c = (stored_all c.loop-j.invariant c.loop-j-test.false).0
