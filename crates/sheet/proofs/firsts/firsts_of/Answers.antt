use Rattle.std.proofs.Common.{arith}
use Rattle.outline.specs.Outline.{IsRecord}
use Rattle.sheet.proofs.Along.{backwards_starts, backwards_link, backwards_goes}
use Rattle.sheet.proofs.Places.{first_step}
use Rattle.sheet.proofs.firsts.firsts_of.Goals as goal

pub loop-r-init : goal.loop-r-init
loop-r-init c = backwards_starts _ _

pub loop-r-preserved : goal.loop-r-preserved
loop-r-preserved c =
    let formed = c.requires.formed in
    let i : IsRecord c.args.o.now c.loop-r.r = record { low = omega arith; high = c.loop-r.invariant.most } in
    let rest = backwards_link c.loop-r.invariant _ (formed.linked.next_later _ i.low i.high) in
    backwards_goes c.loop-r.invariant i.low (omega (arith, i.high, formed.size_most))
    (rw (c.min.ensures, c.next_of.ensures) (first_step formed i _ c.opened_at-own.ensures rest))
