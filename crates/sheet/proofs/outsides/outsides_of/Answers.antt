use Rattle.std.proofs.Common.{arith}
use Rattle.sheet.proofs.Along.{onwards_goes, onwards_ends}
use Rattle.sheet.proofs.outsides.outsides_of.Goals as goal

pub loop-r-preserved : goal.loop-r-preserved
loop-r-preserved c =
    onwards_goes _ c.loop-r.invariant c.requires c.loop-r-test.true c.first_of-first.ensures c.next_of-next.ensures c.place_of.ensures
    c.min-around.ensures c.min.ensures c.min-in-loop-r.ensures

-- after the last record
pub returns-2 : goal.returns-2
returns-2 c =
    let last = onwards_goes _ c.loop-r.invariant c.requires c.loop-r-test.true c.first_of-first.ensures c.next_of-next.ensures c.place_of.ensures
    c.min-around.ensures c.min.ensures c.min-in-loop-r.ensures in
    onwards_ends _ last c.requires.base.formed.linked (omega arith)
