-- `quick::picker::look_at_all` meets its contract: the records before r were looked at.
use Rattle.std.proofs.Common.{◌+◌}
use Rattle.diversity.specs.Diversity.{cost}
use Rattle.quick.proofs.Hand.{Choosing}
use Rattle.quick.proofs.picker.look_at_all.Given as goal

abbrev pub invariant-loop-r : goal.invariant-loop-r
invariant-loop-r l = Choosing l.o (cost l.o l.marks + l.room) l.marks l.sums l.hand l.r
