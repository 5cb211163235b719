use Rattle.std.proofs.Common.{arith}
use Rattle.sheet.proofs.Added.{adding_starts, adding_goes, quarters_end}
use Rattle.sheet.proofs.tables.quarters_of.Goals as goal

pub loop-r-init : goal.loop-r-init
loop-r-init c = adding_starts _ _ _

pub loop-r-preserved : goal.loop-r-preserved
loop-r-preserved c =
    adding_goes _ _ _ c.loop-r.invariant c.loop-r-test.true c.opened_at-at.ensures c.price_of.ensures
    (omega (arith, c.price_of.ensures, (c.requires.base.formed.ranged _ c.loop-r.invariant.low c.loop-r-test.true).price_most))

-- after the last record
pub returns-2 : goal.returns-2
returns-2 c =
    let last = adding_goes _ _ _ c.loop-r.invariant c.loop-r-test.true c.opened_at-at.ensures c.price_of.ensures
    (omega (arith, c.price_of.ensures, (c.requires.base.formed.ranged _ c.loop-r.invariant.low c.loop-r-test.true).price_most)) in
    quarters_end c.requires.base.formed.size_most last (omega arith)
