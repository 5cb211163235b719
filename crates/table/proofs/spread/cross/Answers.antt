-- `table::spread::cross` meets its contract.
use Rattle.table.proofs.Crossing.{pushable_members, charges_cross, crossed_members, pushable_rest, crossed_rest}
use Rattle.table.proofs.spread.cross.Goals as goal

pub push-requires : goal.push-requires
push-requires c = rw c.first_of.ensures (pushable_members c.requires)

pub charge_heading-requires-clause-charges : goal.charge_heading-requires-clause-charges
charge_heading-requires-clause-charges c =
    charges_cross c.requires (rw c.first_of.ensures at c.push.ensures) c.push.auto.work

pub returns-then-by_members : goal.returns-then-by_members
returns-then-by_members c =
    crossed_members c.requires (rw c.first_of.ensures at c.push.ensures) c.push.auto.work
    c.charge_heading.ensures

pub push-requires-2 : goal.push-requires-2
push-requires-2 c = rw c.next_of.ensures (pushable_rest c.requires)

pub returns : goal.returns
returns c = crossed_rest c.requires (rw c.next_of.ensures at c.push-2.ensures)
