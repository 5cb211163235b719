use Rattle.std.proofs.Common.{arith, refl, length-take-le}
use Rattle.lists.proofs.Buffers.{over_part, rising_starts, rising_goes, rising_ends}
use Rattle.view.proofs.house.write_whole.Goals as goal

pub loop-i-init : goal.loop-i-init
loop-i-init c = rising_starts (omega (arith, length-take-le _ _ c.requires))

pub loop-i-preserved : goal.loop-i-preserved
loop-i-preserved c =
    rising_goes c.loop-i.invariant (omega (arith, c.loop-i-test.true, length-take-le _ _ c.requires)) refl

pub returns : goal.returns
returns c =
    let whole = rising_ends c.loop-i.invariant (omega (arith, c.loop-i-test.false, length-take-le _ _ c.requires)) in
    rw whole (over_part _ _ _ refl)
