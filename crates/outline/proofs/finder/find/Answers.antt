-- `outline::finder::find` meets its contract: the record found is one of the outline's.
use Rattle.std.proofs.Common.{◌≡◌, ◌+◌, ◌-◌, ◌*◌, arith, ne_eqb}
use Rattle.lists.proofs.Walk.{nonzero_some, nonzero_none}
use Rattle.outline.specs.Answer.{found_at, found}
use Rattle.outline.proofs.Found.{found_at_le}
use Rattle.outline.proofs.finder.find.Goals as goal

pub overflow_mul-start : goal.overflow_mul-start
overflow_mul-start c = omega (arith, (nonzero_some _ c.in-Some.ensures).0, found_at_le c.args.outline.now c.args.plate)

pub overflow_add-end : goal.overflow_add-end
overflow_add-end c = omega (arith, (nonzero_some _ c.in-Some.ensures).0, found_at_le c.args.outline.now c.args.plate)

pub slice_bounds-result-end-in-Some : goal.slice_bounds-result-end-in-Some
slice_bounds-result-end-in-Some c =
    let some = nonzero_some _ c.in-Some.ensures in
    omega (arith, some.0, some.1, found_at_le c.args.outline.now c.args.plate)

pub returns-in-None : goal.returns-in-None
unfolding found
returns-in-None c = simp (nonzero_none _ c.in-None.ensures)

pub returns-in-Some : goal.returns-in-Some
unfolding found
returns-in-Some c =
    let at = found_at c.args.outline.now c.args.plate in
    let some = nonzero_some at c.in-Some.ensures in
    let sixteen : 16 * (at - 1) + 16 - 16 * (at - 1) ≡ 16 = omega arith in
    simp (some.0, sixteen, ne_eqb at 0 (λ z. omega (arith, some.1)))
