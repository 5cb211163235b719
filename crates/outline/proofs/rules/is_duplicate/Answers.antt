-- `outline::rules::is_duplicate` meets its contract: an earlier taxon is found where there is one.
use Rattle.lists.proofs.Walk.{is_some_nonzero, anywhere_lowest}
use Rattle.outline.specs.Rules.{is_duplicate}
use Rattle.outline.proofs.rules.is_duplicate.Goals as goal

pub returns : goal.returns
unfolding is_duplicate
returns c = simp (c.is_some.ensures, c.holder_of.ensures, c.plate_of.ensures, is_some_nonzero, anywhere_lowest)
