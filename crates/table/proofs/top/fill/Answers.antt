-- `table::top::fill` meets its contract.
use Rattle.table.proofs.Whole.{pushable_root, filled_rooted, spreadable_root, filled_unrooted}
use Rattle.table.proofs.top.fill.Goals as goal

pub push-requires : goal.push-requires
push-requires c =
    pushable_root c.requires (simp c.none.ensures at c.fill_row.ensures) c.fill_row.auto.work (simp c.nothing.ensures at c.fill_row-2.ensures)
    c.fill_row-2.auto.work

pub returns-then-way-eq0 : goal.returns-then-way-eq0
returns-then-way-eq0 c =
    filled_rooted c.requires (simp c.none.ensures at c.fill_row.ensures) c.fill_row.auto.work (simp c.nothing.ensures at c.fill_row-2.ensures)
    c.fill_row-2.auto.work c.push.ensures c.push.auto.work c.if-way-eq0.true c.better_rows.ensures

pub spread-requires : goal.spread-requires
spread-requires c =
    spreadable_root c.requires (simp c.none.ensures at c.fill_row.ensures) c.fill_row.auto.work
    (simp c.nothing.ensures at c.fill_row-2.ensures) c.fill_row-2.auto.work (simp c.nothing-2.ensures at c.fill_row-3.ensures) c.fill_row-3.auto.work

pub returns : goal.returns
returns c =
    filled_unrooted c.requires (simp c.none.ensures at c.fill_row.ensures) c.fill_row.auto.work
    (simp c.nothing.ensures at c.fill_row-2.ensures) c.fill_row-2.auto.work (simp c.nothing-2.ensures at c.fill_row-3.ensures) c.fill_row-3.auto.work
    c.if-way-eq0.false c.spread.ensures
