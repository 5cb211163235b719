-- `measures::locks::mark_locked` meets its contract: the marks of the records passed stand.
use Rattle.lists.proofs.Buffers.{Rising}
use Rattle.laws.specs.Locks.{locked_set}
use Rattle.measures.proofs.locks.mark_locked.Given as goal

abbrev pub invariant-loop-i : goal.invariant-loop-i
invariant-loop-i l = Rising (locked_set l.o) l.initial.mark-items l.mark-items l.i
