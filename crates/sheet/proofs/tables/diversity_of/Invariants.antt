-- `sheet::tables::diversity_of` meets its contract: the branches of the records passed stand in the table.
use Rattle.outline.specs.Outline.{branch}
use Rattle.sheet.specs.Inner.{branch_counts}
use Rattle.sheet.proofs.Added.{Adding}
use Rattle.sheet.proofs.tables.diversity_of.Given as goal

abbrev pub invariant-loop-r : goal.invariant-loop-r
invariant-loop-r l = Adding (branch l.o) (branch_counts l.o l.way l.set) l.n l.r l.table
