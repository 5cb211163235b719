use Rattle.std.proofs.Common.{arith}
use Rattle.outline.specs.Outline.{IsRecord}
use Rattle.sheet.proofs.Added.{adding_starts, adding_goes, diversity_end}
use Rattle.sheet.proofs.Along.{branch_at}
use Rattle.sheet.proofs.tables.diversity_of.Goals as goal

pub loop-r-init : goal.loop-r-init
loop-r-init c = adding_starts _ _ _

pub loop-r-preserved : goal.loop-r-preserved
loop-r-preserved c =
    let i : IsRecord c.args.o.now c.loop-r.r = record { low = c.loop-r.invariant.low; high = c.loop-r-test.true } in
    let since = branch_at c.args.way c.requires c.outsides_of-outsides.ensures i c.next_of.ensures c.opened_at-below.ensures c.min-elsewhere.ensures
    c.max-at.ensures in
    adding_goes _ _ _ c.loop-r.invariant i.high since c.branch_of.ensures
    (omega (arith, c.branch_of.ensures, (c.requires.base.formed.ranged _ i.low i.high).branch_most))

-- after the last record
pub returns-2 : goal.returns-2
returns-2 c =
    let i : IsRecord c.args.o.now c.loop-r.r = record { low = c.loop-r.invariant.low; high = c.loop-r-test.true } in
    let since = branch_at c.args.way c.requires c.outsides_of-outsides.ensures i c.next_of.ensures c.opened_at-below.ensures c.min-elsewhere.ensures
    c.max-at.ensures in
    let last = adding_goes _ _ _ c.loop-r.invariant i.high since c.branch_of.ensures
    (omega (arith, c.branch_of.ensures, (c.requires.base.formed.ranged _ i.low i.high).branch_most)) in
    diversity_end _ c.requires.base.formed.size_most last (omega arith)
