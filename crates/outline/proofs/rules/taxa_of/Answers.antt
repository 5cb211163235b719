-- `outline::rules::taxa_of` meets its contract.
use Rattle.std.proofs.Common.{rules}
use Rattle.outline.specs.Outline.{records, is_taxon}
use Rattle.outline.specs.Rules.{taxa_in, taxa}
use Rattle.outline.proofs.rules.taxa_of.Goals as goal

pub returns : goal.returns
unfolding taxa taxa_in records
returns c = c.count.ensures (is_taxon c.args.o.now) (λ r l u b p. search rules)
