use Rattle.std.proofs.Common.{arith, ◌<◌, length, length-take-le}
use Rattle.lists.proofs.Buffers.{over_part, rising_starts, rising_goes, rising_ends}
use Rattle.laws.specs.Locks.{locked_set}
use Rattle.measures.proofs.Locking.{locked_long, locked_at}
use Rattle.measures.proofs.locks.mark_locked.Goals as goal

pub loop-i-init : goal.loop-i-init
loop-i-init c = rising_starts (omega (arith, locked_long c.args.o.now, length-take-le _ _ c.requires))

pub loop-i-preserved : goal.loop-i-preserved
loop-i-preserved c =
    let inside : c.loop-i.i < length (locked_set c.args.o.now) =
    omega (arith, locked_long c.args.o.now, c.loop-i-test.true, length-take-le _ _ c.requires) in
    rising_goes c.loop-i.invariant inside (locked_at _ _ (omega (arith, inside, locked_long c.args.o.now)) c.is_locked.ensures)

pub returns : goal.returns
returns c =
    let whole = rising_ends c.loop-i.invariant (omega (arith, locked_long c.args.o.now, c.loop-i-test.false, length-take-le _ _ c.requires)) in
    rw whole (over_part _ _ _ (locked_long c.args.o.now))
