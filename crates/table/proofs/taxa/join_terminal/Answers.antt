-- `table::taxa::join_terminal` meets its contract: below the price, and then from the price on.
use Rattle.table.proofs.Terminal.{adds_below, joins_own, taxon_row}
use Rattle.table.proofs.taxa.join_terminal.Goals as goal

pub add_row-requires : goal.add_row-requires
add_row-requires c = adds_below c.requires.taxon_joins c.requires.finished (rw c.price_of-price.ensures at c.min.ensures)

pub join_after-requires : goal.join_after-requires
join_after-requires c =
    rw c.price_of-price.ensures
    (joins_own c.requires.taxon_joins c.requires.finished (rw c.price_of-price.ensures at c.min.ensures) c.add_row.auto.work c.add_row.ensures)

pub returns : goal.returns
returns c =
    taxon_row c.requires.taxon_joins c.requires.finished (rw c.price_of-price.ensures at c.min.ensures) c.add_row.auto.work c.add_row.ensures
    (rw c.price_of-price.ensures at c.join_after.ensures)
