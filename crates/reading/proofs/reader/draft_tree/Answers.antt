-- `reading::reader::draft_tree` meets its contract: the part at the beginning, and what ends it.
use Rattle.std.proofs.Common.{rules}
use Rattle.refusals.proofs.Refusals.{handed_on}
use Rattle.reading.proofs.Grown.{tree_unread, tree_open, tree_reads}
use Rattle.reading.proofs.reader.draft_tree.Goals as goal

pub returns-in_err-part : goal.returns-in_err-part
returns-in_err-part c =
    rw (handed_on _ c.from_residual.ensures.1) (tree_unread c.requires c.in_err-part.ensures)

pub returns-then-not-ends : goal.returns-then-not-ends
returns-then-not-ends c = tree_open c.requires c.in_ok-part.ensures (rw c.left.ensures at c.if-not-ends.ensures)

pub returns : goal.returns
returns c = tree_reads c.requires c.in_ok-part.ensures (search rules) (rw c.left.ensures at c.if-not-ends.ensures) c.draft_record.ensures
