-- `quick::ways::Ways::of` meets its contract: the marks before record r are held.
use Rattle.quick.specs.Inner.{Parents}
use Rattle.quick.proofs.Holding.{Gathering}
use Rattle.quick.proofs.ways.Ways.of.Given as goal

abbrev pub invariant-loop-r : goal.invariant-loop-r
invariant-loop-r l = Gathering l.o l.marks l.r l.ways.held × Parents l.o l.ways.parents
