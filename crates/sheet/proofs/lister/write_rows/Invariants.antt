-- `sheet::lister::write_rows` meets its contract: the rows of the records passed are put.
use Rattle.outline.specs.Outline.{size}
use Rattle.text.proofs.Walks.{Walking}
use Rattle.sheet.specs.Inner.{row_in}
use Rattle.sheet.proofs.lister.write_rows.Given as goal

abbrev pub invariant-loop-r : goal.invariant-loop-r
invariant-loop-r l = Walking (row_in l.o l.set l.adds) 1 (size l.o) l.initial.pen l.r l.pen
