-- `measures::marks::marked` meets its contract.
use Rattle.std.proofs.Common.{arith, rules}
use Rattle.outline.specs.Outline.{records}
use Rattle.diversity.specs.Diversity.{chosen, chosen_taxa}
use Rattle.measures.specs.Inner.{Marked}
use Rattle.measures.proofs.Parts.{taxa_few}
use Rattle.measures.proofs.marks.marked.Goals as goal

found : (c : goal.After-count) → Marked c.args.o.now c.args.marks.now c.count.result
unfolding chosen_taxa records
found c = taxa_few c.requires (c.count.ensures (chosen c.args.marks.now) (λ r l u b p. search rules))

pub overflow_cast-result : goal.overflow_cast-result
overflow_cast-result c = record { fits = omega (arith, (found c).few) }

pub returns : goal.returns
returns c = found c
