use Rattle.std.proofs.Common.{arith}
use Rattle.outline.proofs.WellFormed.{first_less, next_less}
use Rattle.measures.proofs.Parts.{no_chain, parts_addable, chain_measured}
use Rattle.measures.proofs.chain.+measure_chain.Goals as goal

pub returns-then-r-eq0 : goal.returns-then-r-eq0
returns-then-r-eq0 t c = no_chain c.default.result c.if-r-eq0.true c.default.ensures

pub measure_chain-members-requires : goal.measure_chain-members-requires
measure_chain-members-requires t c =
    let (less, most) = first_less c.requires.base.formed.linked (omega arith) c.requires.most c.first_of-f.ensures in
    (omega (arith, less, c.decreases), record { base = c.requires.base; most = most })

pub measure_chain-rest-requires : goal.measure_chain-rest-requires
measure_chain-rest-requires t c =
    let (less, most) = next_less c.requires.base.formed.linked (omega arith) c.requires.most c.next_of-n.ensures in
    (omega (arith, less, c.decreases), record { base = c.requires.base; most = most })

pub add-requires : goal.add-requires
add-requires t c =
    parts_addable c.requires.base (omega arith) c.requires.most c.measure_clade-own.ensures (rw c.next_of-n.ensures at c.measure_chain-rest.ensures)

pub returns : goal.returns
returns t c =
    chain_measured c.requires.base (omega arith) c.requires.most c.measure_clade-own.ensures
    (rw c.next_of-n.ensures at c.measure_chain-rest.ensures) c.add.ensures
