-- `reading::pairs::any_unpaired` meets its contract: a taxon without exactly one pair is looked for.
use Rattle.std.proofs.Common.{rules}
use Rattle.lists.proofs.Walk.{is_some_nonzero, anywhere_lowest}
use Rattle.outline.specs.Outline.{records}
use Rattle.reading.specs.Inner.{unpaired}
use Rattle.reading.proofs.pairs.any_unpaired.Goals as goal

pub returns : goal.returns
unfolding records
returns c =
    let found = c.lowest.ensures (unpaired c.args.o.now c.args.pairs.now) (λ r l u b p. search rules) in
    simp (c.is_some.ensures, found, is_some_nonzero, anywhere_lowest)
