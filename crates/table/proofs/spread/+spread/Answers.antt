use Rattle.std.proofs.Common.{refl, arith}
use Rattle.outline.proofs.WellFormed.{left_less}
use Rattle.table.proofs.Places.{at_links, to_next, to_first}
use Rattle.table.proofs.SpreadSteps.{records_most, spread_none, spreadable_next, taxon_spreadable, spread_taxon_done}
use Rattle.table.proofs.SpreadSteps.{spreadable_last, charges_last, spread_last, spreadable_first, charges_first, crossable, meets}
use Rattle.table.proofs.SpreadSteps.{spread_more}
use Rattle.table.proofs.spread.+spread.Goals as goal

pub returns-then-r-eq0 : goal.returns-then-r-eq0
returns-then-r-eq0 t c = rw c.if-r-eq0.true (spread_none (rw c.if-r-eq0.true at c.requires))

pub spread-later-requires : goal.spread-later-requires
spread-later-requires t c =
    let a = at_links c.requires.running.base c.requires.most c.if-r-eq0.false c.next_of-n.ensures refl in
    (omega (arith, left_less _ _ _ a.positive a.most (to_next a), c.decreases), spreadable_next c.requires a)

pub spread_taxon-requires : goal.spread_taxon-requires
spread_taxon-requires t c =
    let a = at_links c.requires.running.base c.requires.most c.if-r-eq0.false c.next_of-n.ensures c.first_of-f.ensures in
    taxon_spreadable c.requires a c.spread-later.ensures c.spread-later.auto.work c.if-f-eq0.true c.rest_at.ensures

pub overflow_add-result : goal.overflow_add-result
overflow_add-result t c =
    let a = at_links c.requires.running.base c.requires.most c.if-r-eq0.false c.next_of-n.ensures c.first_of-f.ensures in
    omega (arith, records_most a.base.formed (to_next a).most c.spread-later.ensures.records)

pub returns-then-f-eq0 : goal.returns-then-f-eq0
returns-then-f-eq0 t c =
    let a = at_links c.requires.running.base c.requires.most c.if-r-eq0.false c.next_of-n.ensures c.first_of-f.ensures in
    spread_taxon_done c.requires a c.spread-later.ensures c.spread-later.auto.work c.if-f-eq0.true c.rest_at.ensures c.spread_taxon.ensures

pub spread-members-requires : goal.spread-members-requires
spread-members-requires t c =
    let a = at_links c.requires.running.base c.requires.most c.if-r-eq0.false c.next_of-n.ensures c.first_of-f.ensures in
    rw c.price_of.ensures (
      omega (arith, left_less _ _ _ a.positive a.most (to_first a), c.decreases),
      spreadable_last c.requires a c.spread-later.ensures c.spread-later.auto.work c.if-f-eq0.false c.if-n-eq0.true,
    )

pub charge_heading-requires-clause-charges : goal.charge_heading-requires-clause-charges
charge_heading-requires-clause-charges t c =
    let a = at_links c.requires.running.base c.requires.most c.if-r-eq0.false c.next_of-n.ensures c.first_of-f.ensures in
    charges_last c.requires a c.spread-later.ensures c.spread-later.auto.work c.if-f-eq0.false c.if-n-eq0.true
    (rw c.price_of.ensures at c.spread-members.ensures) c.spread-members.auto.work

pub overflow_add-result-then-n-eq0 : goal.overflow_add-result-then-n-eq0
overflow_add-result-then-n-eq0 t c =
    let a = at_links c.requires.running.base c.requires.most c.if-r-eq0.false c.next_of-n.ensures c.first_of-f.ensures in
    omega (arith, records_most a.base.formed (to_first a).most c.spread-members.ensures.records)

pub returns-then-n-eq0 : goal.returns-then-n-eq0
returns-then-n-eq0 t c =
    let a = at_links c.requires.running.base c.requires.most c.if-r-eq0.false c.next_of-n.ensures c.first_of-f.ensures in
    spread_last c.requires a c.spread-later.ensures c.spread-later.auto.work c.if-f-eq0.false c.if-n-eq0.true
    (rw c.price_of.ensures at c.spread-members.ensures) c.spread-members.auto.work
    c.charge_heading.ensures

pub spread-members-requires-2 : goal.spread-members-requires-2
spread-members-requires-2 t c =
    let a = at_links c.requires.running.base c.requires.most c.if-r-eq0.false c.next_of-n.ensures c.first_of-f.ensures in
    rw c.price_of.ensures (
      omega (arith, left_less _ _ _ a.positive a.most (to_first a), c.decreases),
      spreadable_first c.requires a c.spread-later.ensures c.spread-later.auto.work c.if-f-eq0.false c.if-n-eq0.false,
    )

pub charge_heading-requires-2-clause-charges : goal.charge_heading-requires-2-clause-charges
charge_heading-requires-2-clause-charges t c =
    let a = at_links c.requires.running.base c.requires.most c.if-r-eq0.false c.next_of-n.ensures c.first_of-f.ensures in
    charges_first c.requires a c.spread-later.ensures c.spread-later.auto.work c.if-f-eq0.false c.if-n-eq0.false
    (rw c.price_of.ensures at c.spread-members-2.ensures) c.spread-members-2.auto.work

pub cross-requires : goal.cross-requires
cross-requires t c =
    let a = at_links c.requires.running.base c.requires.most c.if-r-eq0.false c.next_of-n.ensures c.first_of-f.ensures in
    crossable c.requires a c.spread-later.ensures c.spread-later.auto.work c.if-f-eq0.false c.if-n-eq0.false
    (rw c.price_of.ensures at c.spread-members-2.ensures) c.spread-members-2.auto.work
    c.charge_heading-2.ensures c.charge_heading-2.auto.work

pub meet-requires : goal.meet-requires
meet-requires t c =
    let a = at_links c.requires.running.base c.requires.most c.if-r-eq0.false c.next_of-n.ensures c.first_of-f.ensures in
    meets c.requires a c.spread-later.ensures c.spread-later.auto.work c.if-f-eq0.false c.if-n-eq0.false
    (rw c.price_of.ensures at c.spread-members-2.ensures) c.spread-members-2.auto.work
    c.charge_heading-2.ensures c.charge_heading-2.auto.work
    c.cross.ensures c.cross.auto.work

pub overflow_add-result-2 : goal.overflow_add-result-2
overflow_add-result-2 t c =
    let a = at_links c.requires.running.base c.requires.most c.if-r-eq0.false c.next_of-n.ensures c.first_of-f.ensures in
    omega (arith, records_most a.base.formed (to_first a).most c.spread-members-2.ensures.records)

pub overflow_add-result-3 : goal.overflow_add-result-3
overflow_add-result-3 t c =
    let a = at_links c.requires.running.base c.requires.most c.if-r-eq0.false c.next_of-n.ensures c.first_of-f.ensures in
    omega (arith, records_most a.base.formed (to_next a).most c.spread-later.ensures.records, records_most a.base.formed (to_first a).most c.spread-members-2.ensures.records)

pub returns : goal.returns
returns t c =
    let a = at_links c.requires.running.base c.requires.most c.if-r-eq0.false c.next_of-n.ensures c.first_of-f.ensures in
    spread_more c.requires a c.spread-later.ensures c.spread-later.auto.work c.if-f-eq0.false c.if-n-eq0.false
    (rw c.price_of.ensures at c.spread-members-2.ensures) c.spread-members-2.auto.work
    c.charge_heading-2.ensures c.charge_heading-2.auto.work
    c.cross.ensures c.cross.auto.work c.meet.ensures
