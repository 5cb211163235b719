-- `listing::taxa::put_taxa` meets its contract: each turn puts a row's line.
use Rattle.text.proofs.Walks.{Walking}
use Rattle.listing.specs.FromBuffers.{taxon_text}
use Rattle.listing.proofs.taxa.put_taxa.Given as goal

abbrev pub invariant-loop-plate : goal.invariant-loop-plate
invariant-loop-plate l = Walking (taxon_text l.sheet) 0 l.rows l.initial.pen l.plate-index l.pen
