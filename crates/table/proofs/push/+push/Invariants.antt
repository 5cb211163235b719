-- `table::push::push` meets its contract. The measure is how many records are left. Each call is a step of proofs/Pushing, which
-- shows what the next call asks, and in the end the contract.
use Rattle.outline.proofs.WellFormed.{left}
use Rattle.table.proofs.push.+push.Given as goal

abbrev pub decreases-push : goal.decreases-push
decreases-push l = left l.o.now l.r
