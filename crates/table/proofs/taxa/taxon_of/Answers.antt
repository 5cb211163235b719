-- `table::taxa::taxon_of` meets its contract.
use Rattle.laws.proofs.Weights.{weight_limit}
use Rattle.table.proofs.taxa.taxon_of.Goals as goal

pub weight_of-requires-clause-weight_fits : goal.weight_of-requires-clause-weight_fits
weight_of-requires-clause-weight_fits c =
    let t = c.requires.taxon in
    weight_limit _ t.formed _ t.low t.high t.taxon
