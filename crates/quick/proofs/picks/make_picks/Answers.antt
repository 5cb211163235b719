use Rattle.std.proofs.Common.{arith}
use Rattle.quick.proofs.Holding.{rising}
use Rattle.quick.proofs.Taking.{pick_record, spent_small, taking_stops, taking_goes, taking_ends}
use Rattle.quick.proofs.picks.make_picks.Goals as goal

pub returns-in_default : goal.returns-in_default
returns-in_default c = taking_stops c.loop.invariant c.next_pick.ensures c.in_default.is

pub bounds-marks-pick : goal.bounds-marks-pick
bounds-marks-pick c =
    let h = c.loop.invariant in
    let i = pick_record h c.next_pick.ensures c.in-Some.is in
    omega (arith, i.low, i.high, h.ready.ready.base.is_set.whole)

pub hold-requires : goal.hold-requires
hold-requires c =
    let h = c.loop.invariant in
    let ready = h.ready.ready in
    rising ready.base.formed.linked ready.parents_are (pick_record h c.next_pick.ensures c.in-Some.is) ready.base.formed
    ready.held_are

pub overflow_add-spent : goal.overflow_add-spent
overflow_add-spent c = record { fits = omega (arith, spent_small c.loop.invariant c.next_pick.ensures c.in-Some.is) }

pub loop-preserved : goal.loop-preserved
loop-preserved c =
    taking_goes c.loop.invariant c.next_pick.ensures c.in-Some.is c.loop-test.true c.hold.ensures

pub returns : goal.returns
returns c = taking_ends c.loop.invariant c.loop-test.false
