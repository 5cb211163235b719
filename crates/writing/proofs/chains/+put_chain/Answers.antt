use Rattle.std.proofs.Common.{arith, refl}
use Rattle.text.proofs.Writing.{left_fits, left_goes}
use Rattle.writing.proofs.Along.{text_none, first_falls, next_falls, text_left}
use Rattle.writing.proofs.chains.+put_chain.Goals as goal

pub returns-then-r-eq0 : goal.returns-then-r-eq0
returns-then-r-eq0 t c = text_none _ _ c.if-r-eq0.true

pub put_head-requires-clause-long_enough : goal.put_head-requires-clause-long_enough
put_head-requires-clause-long_enough t c =
    left_fits _ _ (text_left c.requires.along c.if-r-eq0.false c.args.pen.now refl refl c.requires.long_enough)

pub put_chain-requires : goal.put_chain-requires
put_chain-requires t c =
    let falls = first_falls c.requires.along c.if-r-eq0.false c.first_of.ensures in
    let whole = text_left c.requires.along c.if-r-eq0.false c.args.pen.now c.first_of.ensures refl c.requires.long_enough in
    (omega (arith, falls.0, c.decreases), (falls.1, left_fits _ _ (left_goes _ _ whole c.put_head.ensures)))

pub put_tail-requires-clause-long_enough : goal.put_tail-requires-clause-long_enough
put_tail-requires-clause-long_enough t c =
    let whole = text_left c.requires.along c.if-r-eq0.false c.args.pen.now c.first_of.ensures refl c.requires.long_enough in
    left_fits _ _ (left_goes _ _ (left_goes _ _ whole c.put_head.ensures) c.put_chain.ensures)

pub put_chain-requires-2 : goal.put_chain-requires-2
put_chain-requires-2 t c =
    let falls = next_falls c.requires.along c.if-r-eq0.false c.next_of.ensures in
    let whole = text_left c.requires.along c.if-r-eq0.false c.args.pen.now c.first_of.ensures c.next_of.ensures c.requires.long_enough in
    let rest = left_goes _ _ (left_goes _ _ (left_goes _ _ whole c.put_head.ensures) c.put_chain.ensures) c.put_tail.ensures in
    (omega (arith, falls.0, c.decreases), (falls.1, rest.fits))

pub returns : goal.returns
returns t c =
    let whole = text_left c.requires.along c.if-r-eq0.false c.args.pen.now c.first_of.ensures c.next_of.ensures c.requires.long_enough in
    let rest = left_goes _ _ (left_goes _ _ (left_goes _ _ whole c.put_head.ensures) c.put_chain.ensures) c.put_tail.ensures in
    rest.completes c.put_chain-2.ensures
