use Rattle.std.proofs.Common.{refl, arith}
use Rattle.outline.proofs.WellFormed.{left_less}
use Rattle.table.proofs.Places.{terminal_fills, at_links, to_next, to_first}
use Rattle.table.proofs.Pushing.{pushed_none, pushable_next, base₁, joins_taxon, pushed_taxon, pushable_first, charges, pushed_group}
use Rattle.table.proofs.Terminal.{joins_kept, row_kept}
use Rattle.table.proofs.push.+push.Goals as goal

pub returns-then-r-eq0 : goal.returns-then-r-eq0
returns-then-r-eq0 t c = rw c.if-r-eq0.true (pushed_none _ _ _ _ c.requires.base)

pub push-rest-requires : goal.push-rest-requires
push-rest-requires t c =
    let a = at_links c.requires.base c.requires.most c.if-r-eq0.false c.next_of-n.ensures refl in
    (omega (arith, left_less _ _ _ a.positive a.most (to_next a), c.decreases), pushable_next c.requires a)

pub terminal_row-requires : goal.terminal_row-requires
terminal_row-requires t c =
    let a = at_links c.requires.base c.requires.most c.if-r-eq0.false c.next_of-n.ensures c.first_of-f.ensures in
    let j = joins_taxon c.requires a c.push-rest.ensures c.push-rest.auto.work c.if-f-eq0.true in
    terminal_fills (base₁ c.requires a c.push-rest.ensures c.push-rest.auto.work) j.is (omega (arith, j.inside))

pub join_terminal-requires-clause-taxon_joins : goal.join_terminal-requires-clause-taxon_joins
join_terminal-requires-clause-taxon_joins t c =
    let a = at_links c.requires.base c.requires.most c.if-r-eq0.false c.next_of-n.ensures c.first_of-f.ensures in
    joins_kept (joins_taxon c.requires a c.push-rest.ensures c.push-rest.auto.work c.if-f-eq0.true) (omega arith)
    c.terminal_row.ensures.written c.terminal_row.auto.work

pub returns-then-f-eq0 : goal.returns-then-f-eq0
returns-then-f-eq0 t c =
    let a = at_links c.requires.base c.requires.most c.if-r-eq0.false c.next_of-n.ensures c.first_of-f.ensures in
    let j = joins_taxon c.requires a c.push-rest.ensures c.push-rest.auto.work c.if-f-eq0.true in
    pushed_taxon c.requires a c.push-rest.ensures c.push-rest.auto.work c.if-f-eq0.true
    (row_kept j c.terminal_row.ensures.written c.join_terminal.ensures)

pub push-requires : goal.push-requires
push-requires t c =
    let a = at_links c.requires.base c.requires.most c.if-r-eq0.false c.next_of-n.ensures c.first_of-f.ensures in (
      omega (arith, left_less _ _ _ a.positive a.most (to_first a), c.decreases),
      pushable_first c.requires a c.push-rest.ensures c.push-rest.auto.work c.if-f-eq0.false c.follow_row-follow.ensures
          c.follow_row-follow.auto.work,
    )

pub charge_heading-requires-clause-charges : goal.charge_heading-requires-clause-charges
charge_heading-requires-clause-charges t c =
    let a = at_links c.requires.base c.requires.most c.if-r-eq0.false c.next_of-n.ensures c.first_of-f.ensures in
    charges c.requires a c.push-rest.ensures c.push-rest.auto.work c.if-f-eq0.false c.follow_row-follow.ensures
    c.follow_row-follow.auto.work c.push.ensures c.push.auto.work

pub returns : goal.returns
returns t c =
    let a = at_links c.requires.base c.requires.most c.if-r-eq0.false c.next_of-n.ensures c.first_of-f.ensures in
    pushed_group c.requires a c.push-rest.ensures c.push-rest.auto.work c.if-f-eq0.false c.follow_row-follow.ensures
    c.follow_row-follow.auto.work c.push.ensures c.push.auto.work
    c.charge_heading.ensures
