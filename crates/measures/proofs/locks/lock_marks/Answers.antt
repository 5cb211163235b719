-- `measures::locks::lock_marks` meets its contract.
use Rattle.measures.specs.Inner.{blank}
use Rattle.measures.proofs.locks.lock_marks.Goals as goal

pub returns : goal.returns
unfolding blank
returns c = c.mark_locked.ensures
