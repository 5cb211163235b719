-- `outline::rules::count_links`: each turn counts a record's two links, and no count overflows.
use Rattle.std.proofs.Common.{arith}
use Rattle.outline.proofs.Counting.{tallying_starts, tallying_goes, tallying_ends, counted_small}
use Rattle.outline.proofs.rules.count_links.Goals as goal

pub loop-r-init : goal.loop-r-init
loop-r-init c = tallying_starts _ _

pub count_link-requires-in-loop-r : goal.count_link-requires-in-loop-r
count_link-requires-in-loop-r c =
    let small = counted_small _ c.loop-r.invariant c.loop-r-test.true c.requires in
    rw c.count_link.ensures (omega (arith, small c.next_of.result c.first_of.result))

pub loop-r-preserved : goal.loop-r-preserved
loop-r-preserved c =
    rw (c.count_link-in-loop-r.ensures, c.first_of.ensures, c.count_link.ensures, c.next_of.ensures)
    (tallying_goes _ c.loop-r.invariant c.loop-r-test.true)

pub returns : goal.returns
returns c = tallying_ends _ c.requires c.loop-r.invariant c.loop-r-test.false

-- after the last record
pub returns-2 : goal.returns-2
returns-2 c =
    rw (c.count_link-in-loop-r.ensures, c.first_of.ensures, c.count_link.ensures, c.next_of.ensures)
    (tallying_ends _ c.requires (tallying_goes _ c.loop-r.invariant c.loop-r-test.true) (omega arith))
