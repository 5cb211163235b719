-- `table::spread::better_by_single` meets its contract.
use Rattle.std.proofs.Common.{ap, ◌+◌, arith}
use Rattle.table.proofs.Spreading.{bettered_single, bettered_beyond, bettered_dear}
use Rattle.table.proofs.spread.better_by_single.Goals as goal

pub returns-then-width-cost : goal.returns-then-width-cost
returns-then-width-cost c = bettered_beyond c.requires.running c.args.r c.args.above (omega arith)

pub returns-then-cost-is_locked : goal.returns-then-cost-is_locked
returns-then-cost-is_locked c =
    bettered_single c.requires.running c.args.r c.args.above (ap (λ k. c.args.above + k) c.price_of.ensures)
    (rw c.taxon_of.ensures at c.better_by.ensures)

pub returns-else-cost-is_locked : goal.returns-else-cost-is_locked
returns-else-cost-is_locked c =
    bettered_dear c.requires.running c.args.r c.args.above (ap (λ k. c.args.above + k) c.price_of.ensures)
    (rw c.is_locked.ensures at c.if-cost-is_locked.false)
