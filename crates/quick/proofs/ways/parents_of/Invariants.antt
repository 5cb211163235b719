-- `quick::ways::parents_of` meets its contract: the parents are known of the records that a link of a record before r names.
use Rattle.quick.proofs.Upwards.{Climbing}
use Rattle.quick.proofs.ways.parents_of.Given as goal

abbrev pub invariant-loop-r : goal.invariant-loop-r
invariant-loop-r l = Climbing l.o l.r l.parents
