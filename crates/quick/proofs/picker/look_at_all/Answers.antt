use Rattle.std.proofs.Common.{arith}
use Rattle.quick.proofs.Hand.{choosing_starts, choosing_goes, choosing_ends}
use Rattle.quick.proofs.picker.look_at_all.Goals as goal

pub loop-r-init : goal.loop-r-init
loop-r-init c = choosing_starts c.requires.1

pub loop-r-preserved : goal.loop-r-preserved
loop-r-preserved c = choosing_goes c.loop-r.invariant c.loop-r-test.true c.look_at-hand.ensures

-- after the last record
pub returns-2 : goal.returns-2
returns-2 c = choosing_ends (choosing_goes c.loop-r.invariant c.loop-r-test.true c.look_at-hand.ensures) (omega arith)
