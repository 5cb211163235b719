-- `sheet::tables::quarters_of` meets its contract: the prices of the records passed stand in the table.
use Rattle.outline.specs.Outline.{price}
use Rattle.sheet.specs.Inner.{price_counts}
use Rattle.sheet.proofs.Added.{Adding}
use Rattle.sheet.proofs.tables.quarters_of.Given as goal

abbrev pub invariant-loop-r : goal.invariant-loop-r
invariant-loop-r l = Adding (price l.o) (price_counts l.o l.set) l.n l.r l.table
