use Rattle.std.proofs.Common.{arith, ◌∙◌, length-set}
use Rattle.outline.proofs.WellFormed.{first_less, next_less}
use Rattle.house.proofs.Entering.{none_entered, own_smallest, chain_entered}
use Rattle.house.proofs.plates.+enter_smallest.Goals as goal

pub returns-then-r-eq0 : goal.returns-then-r-eq0
returns-then-r-eq0 t c = none_entered c.if-r-eq0.true

pub enter_smallest-below-requires : goal.enter_smallest-below-requires
enter_smallest-below-requires t c =
    let (less, most) = first_less c.requires.formed.linked (omega arith) c.requires.most c.first_of.ensures in
    (omega (arith, less, c.decreases), record { formed = c.requires.formed; most = most; long = c.requires.long })

pub enter_smallest-rest-requires : goal.enter_smallest-rest-requires
enter_smallest-rest-requires t c =
    let (less, most) = next_less c.requires.formed.linked (omega arith) c.requires.most c.next_of.ensures in
    let long = length-set _ _ _ ∙ c.enter_smallest-below.ensures.long ∙ c.requires.long in
    (omega (arith, less, c.decreases), record { formed = c.requires.formed; most = most; long = long })

pub returns : goal.returns
returns t c =
    let below = rw c.first_of.ensures at c.enter_smallest-below.ensures in
    chain_entered c.requires (omega arith) c.first_of.ensures c.next_of.ensures c.enter_smallest-below.ensures
    (own_smallest _ _ c.plate_of.ensures below.smallest_is c.smaller-here.ensures) c.enter_smallest-rest.ensures c.smaller.ensures
