-- `outline::rules::bad_link` meets its contract.
use Rattle.std.proofs.Common.{◌≡◌, get_or, arith, eq-eqb, ne_eqb}
use Rattle.outline.specs.Rules.{named, bad_link}
use Rattle.outline.proofs.rules.bad_link.Goals as goal

pub returns-then-r-eq1 : goal.returns-then-r-eq1
unfolding bad_link
returns-then-r-eq1 c =
    simp (eq-eqb _ _ c.if-r-eq1.true, c.is_stray-2.ensures, c.first_of.ensures, c.is_stray.ensures, c.next_of-next.ensures)

pub returns-else-r-eq1 : goal.returns-else-r-eq1
unfolding bad_link
returns-else-r-eq1 c =
    let tally = c.requires.tally in
    let named-here : get_or c.args.counts.now c.args.r 0 ≡ named c.args.o.now c.args.r =
    tally.each c.args.r (omega (arith, c.requires.is_record.high, tally.few)) in
    simp (ne_eqb _ _ c.if-r-eq1.false, named-here, c.is_stray-2.ensures, c.first_of.ensures, c.is_stray.ensures, c.next_of-next.ensures)
