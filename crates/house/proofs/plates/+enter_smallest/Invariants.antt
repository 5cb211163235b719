-- `house::plates::enter_smallest` meets its contract. The measure is how many records are left.
use Rattle.outline.proofs.WellFormed.{left}
use Rattle.house.proofs.plates.+enter_smallest.Given as goal

abbrev pub decreases-enter_smallest : goal.decreases-enter_smallest
decreases-enter_smallest l = left l.o.now l.r
