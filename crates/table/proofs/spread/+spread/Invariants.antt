-- `table::spread::spread` meets its contract. The measure is how many records are left. Each call is a step of proofs/SpreadSteps,
-- which shows what the next call asks, and in the end the contract.
use Rattle.outline.proofs.WellFormed.{left}
use Rattle.table.proofs.spread.+spread.Given as goal

abbrev pub decreases-spread : goal.decreases-spread
decreases-spread l = left l.o.now l.r
