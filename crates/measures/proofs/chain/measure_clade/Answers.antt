-- `measures::chain::measure_clade` meets its contract: the record counts where a taxon at or below it is chosen.
use Rattle.measures.proofs.Parts.{taxa_fit, cost_fits, diversity_fits}
use Rattle.measures.proofs.chain.measure_clade.Goals as goal

pub overflow_add-below : goal.overflow_add-below
overflow_add-below c = record { fits = taxa_fit c.requires _ }

pub overflow_add-result : goal.overflow_add-result
overflow_add-result c = record { fits = cost_fits c.requires _ c.price_counted.ensures }

pub overflow_add-result-2 : goal.overflow_add-result-2
overflow_add-result-2 c = record { fits = diversity_fits c.requires _ c.branch_counted.ensures }
