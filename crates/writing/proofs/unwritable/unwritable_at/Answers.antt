-- `writing::unwritable::unwritable_at` meets its contract.
use Rattle.std.proofs.Common.{rules}
use Rattle.outline.specs.Outline.{records}
use Rattle.newick.specs.Trees.{unwritable}
use Rattle.writing.proofs.unwritable.unwritable_at.Goals as goal

pub returns : goal.returns
unfolding records
returns c = c.lowest.ensures (unwritable c.args.o.now) (λ r l u b p. search rules)
