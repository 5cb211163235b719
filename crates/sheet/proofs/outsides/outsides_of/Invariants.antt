-- `sheet::outsides::outsides_of` meets its contract: the chains that a link of a record before r begins are known.
use Rattle.sheet.proofs.Along.{Onwards}
use Rattle.sheet.proofs.outsides.outsides_of.Given as goal

abbrev pub invariant-loop-r : goal.invariant-loop-r
invariant-loop-r l = Onwards l.o l.way l.set l.r l.outsides
