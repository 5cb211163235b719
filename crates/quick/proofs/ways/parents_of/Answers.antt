use Rattle.std.proofs.Common.{arith}
use Rattle.diversity.specs.Paths.{of_root}
use Rattle.laws.proofs.Handing.{handing_starts}
use Rattle.quick.proofs.Upwards.{climbing_goes, climbing_ends}
use Rattle.quick.proofs.ways.parents_of.Goals as goal

pub loop-r-init : goal.loop-r-init
loop-r-init c = handing_starts of_root

pub loop-r-preserved : goal.loop-r-preserved
loop-r-preserved c = climbing_goes c.requires c.loop-r.invariant c.loop-r-test.true c.first_of-first.ensures c.next_of-next.ensures

-- after the last record
pub returns-2 : goal.returns-2
returns-2 c =
    let last = climbing_goes c.requires c.loop-r.invariant c.loop-r-test.true c.first_of-first.ensures c.next_of-next.ensures in
    climbing_ends c.requires last (omega arith)
