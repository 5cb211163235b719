-- `cells::memory::charge_row` meets its contract: all of it at once under a free heading, else from the price on and below it.
use Rattle.cells.proofs.ByPrice.{charging_whole}
use Rattle.cells.proofs.memory.charge_row.Goals as goal

pub returns : goal.returns
returns c = charging_whole c.requires c.charge_from-2.auto.work c.charge_from-2.ensures c.min.ensures c.better_rows.ensures
