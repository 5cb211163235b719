-- `writing::pricing::put_pairs` meets its contract: a record's own pair, its members', those of the rest of the chain. The measure is
-- how many records are left.
use Rattle.outline.proofs.WellFormed.{left}
use Rattle.writing.proofs.pricing.+put_pairs.Given as goal

abbrev pub decreases-put_pairs : goal.decreases-put_pairs
decreases-put_pairs l = left l.o.now l.r
