-- `table::spread::spread_taxon` meets its contract.
use Rattle.table.proofs.Spreading.{pairs_ask, join_asks, taxon_spread}
use Rattle.table.proofs.spread.spread_taxon.Goals as goal

pub better_by_pairs-requires-clause-taxon_spreadable : goal.better_by_pairs-requires-clause-taxon_spreadable
better_by_pairs-requires-clause-taxon_spreadable c =
    (pairs_ask c.requires c.terminal_row.ensures c.terminal_row.auto.work c.better_by_single.ensures c.better_by_single.auto.work).0

pub join_terminal-requires-clause-taxon_joins : goal.join_terminal-requires-clause-taxon_joins
join_terminal-requires-clause-taxon_joins c =
    (join_asks c.requires c.terminal_row.ensures c.terminal_row.auto.work c.better_by_single.ensures c.better_by_single.auto.work
    c.better_by_pairs.ensures c.better_by_pairs.auto.work).1

pub returns : goal.returns
returns c =
    taxon_spread c.requires c.terminal_row.ensures c.terminal_row.auto.work c.better_by_single.ensures c.better_by_single.auto.work
    c.better_by_pairs.ensures c.better_by_pairs.auto.work c.join_terminal.ensures
