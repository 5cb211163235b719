-- `writing::chains::put_chain` meets its contract: what stands before the members, the members, what stands after them, the rest of
-- the chain. The measure is how many records are left.
use Rattle.outline.proofs.WellFormed.{left}
use Rattle.writing.proofs.chains.+put_chain.Given as goal

abbrev pub decreases-put_chain : goal.decreases-put_chain
decreases-put_chain l = left l.o.now l.r
