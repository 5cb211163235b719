use Rattle.std.proofs.Common.{◌≤◌, arith}
use Rattle.quick.proofs.Holding.{going_starts, going_goes, going_ends, going_stops}
use Rattle.quick.proofs.ways.Ways.hold.Goals as goal

pub loop-at-init : goal.loop-at-init
loop-at-init c = going_starts

pub returns-then-self-at : goal.returns-then-self-at
returns-then-self-at c =
    let low : 1 ≤ c.loop-at.at = omega (arith, c.loop-at-test.true) in
    going_stops c.requires c.loop-at.invariant low c.if-self-at.true

pub loop-at-preserved : goal.loop-at-preserved
loop-at-preserved c =
    let low : 1 ≤ c.loop-at.at = omega (arith, c.loop-at-test.true) in
    going_goes c.requires c.loop-at.invariant low

pub returns : goal.returns
returns c = going_ends c.requires c.loop-at.invariant c.loop-at-test.false
