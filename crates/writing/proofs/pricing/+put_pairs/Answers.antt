use Rattle.std.proofs.Common.{arith, refl}
use Rattle.text.proofs.Writing.{left_fits, left_goes}
use Rattle.writing.proofs.Along.{pairs_none, first_falls, next_falls, pairs_left}
use Rattle.writing.proofs.pricing.+put_pairs.Goals as goal

pub returns-then-r-eq0 : goal.returns-then-r-eq0
returns-then-r-eq0 t c = pairs_none _ _ c.if-r-eq0.true

pub put_pair-requires-clause-long_enough : goal.put_pair-requires-clause-long_enough
put_pair-requires-clause-long_enough t c =
    left_fits _ _ (pairs_left c.requires.along c.if-r-eq0.false c.args.pen.now refl refl c.requires.long_enough)

pub put_pairs-requires : goal.put_pairs-requires
put_pairs-requires t c =
    let falls = first_falls c.requires.along c.if-r-eq0.false c.first_of.ensures in
    let whole = pairs_left c.requires.along c.if-r-eq0.false c.args.pen.now c.first_of.ensures refl c.requires.long_enough in
    (omega (arith, falls.0, c.decreases), (falls.1, left_fits _ _ (left_goes _ _ whole c.put_pair.ensures)))

pub put_pairs-requires-2 : goal.put_pairs-requires-2
put_pairs-requires-2 t c =
    let falls = next_falls c.requires.along c.if-r-eq0.false c.next_of.ensures in
    let whole = pairs_left c.requires.along c.if-r-eq0.false c.args.pen.now c.first_of.ensures c.next_of.ensures c.requires.long_enough in
    let rest = left_goes _ _ (left_goes _ _ whole c.put_pair.ensures) c.put_pairs.ensures in
    (omega (arith, falls.0, c.decreases), (falls.1, rest.fits))

pub returns : goal.returns
returns t c =
    let whole = pairs_left c.requires.along c.if-r-eq0.false c.args.pen.now c.first_of.ensures c.next_of.ensures c.requires.long_enough in
    (left_goes _ _ (left_goes _ _ whole c.put_pair.ensures) c.put_pairs.ensures).completes c.put_pairs-2.ensures
