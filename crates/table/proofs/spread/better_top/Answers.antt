-- `table::spread::better_top` meets its contract.
use Rattle.table.proofs.Spreading.{bettered_here, bettered_moved}
use Rattle.table.proofs.spread.better_top.Goals as goal

pub returns-then-above-eq0 : goal.returns-then-above-eq0
returns-then-above-eq0 c = bettered_here c.requires c.if-above-eq0.true c.better_rows.ensures

pub returns-else-above-eq0 : goal.returns-else-above-eq0
returns-else-above-eq0 c = bettered_moved c.requires c.charge_from.ensures
