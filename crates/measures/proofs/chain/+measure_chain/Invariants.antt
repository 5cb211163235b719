-- `measures::chain::measure_chain` meets its contract. The measure is how many records are left.
use Rattle.outline.proofs.WellFormed.{left}
use Rattle.measures.proofs.chain.+measure_chain.Given as goal

abbrev pub decreases-measure_chain : goal.decreases-measure_chain
decreases-measure_chain l = left l.o.now l.r
