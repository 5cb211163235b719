-- `table::spread::better_by_pairs` meets its contract.
use Rattle.std.proofs.Common.{ap, ◌+◌}
use Rattle.table.proofs.Spreading.{joins_pairs, bettered_pairs, bettered_none}
use Rattle.table.proofs.spread.better_by_pairs.Goals as goal

pub join_row-requires : goal.join_row-requires
join_row-requires c =
    joins_pairs c.requires.taxon_spreadable c.requires.finished c.if-rest-ne0.true (ap (λ k. c.args.above + k) c.price_of.ensures)

pub returns-then-rest-ne0 : goal.returns-then-rest-ne0
returns-then-rest-ne0 c =
    bettered_pairs c.requires.taxon_spreadable c.requires.finished c.if-rest-ne0.true (ap (λ k. c.args.above + k) c.price_of.ensures)
    c.join_row.ensures

pub returns-else-rest-ne0 : goal.returns-else-rest-ne0
returns-else-rest-ne0 c = bettered_none c.requires.taxon_spreadable c.if-rest-ne0.false
