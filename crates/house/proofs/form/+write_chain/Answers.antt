use Rattle.std.proofs.Common.{arith}
use Rattle.house.proofs.Writing.{none_written, first_fits, next_fits, own_fits, first_falls, next_falls, chain_written}
use Rattle.house.proofs.form.+write_chain.Goals as goal

pub returns-then-r-eq0 : goal.returns-then-r-eq0
returns-then-r-eq0 t c = none_written c.if-r-eq0.true

pub write_chain-below-requires : goal.write_chain-below-requires
write_chain-below-requires t c =
    let x = c.requires.fits in
    (omega (arith, first_falls x (omega arith), c.decreases), record { forest = _; fits = first_fits x (omega arith) })

pub write_chain-end-requires : goal.write_chain-end-requires
write_chain-end-requires t c =
    let x = c.requires.fits in
    let written = c.write_chain-below.ensures _ (first_fits x (omega arith)) in (
      omega (arith, next_falls x (omega arith), c.decreases),
      record { forest = _; fits = next_fits x (omega arith) written.number_is c.write_chain-below.auto.form },
    )

pub put_at-requires : goal.put_at-requires
put_at-requires t c = own_fits c.requires.fits (omega arith) (omega (arith, c.write_chain-below.auto.form, c.write_chain-end.auto.form))

pub returns : goal.returns
returns t c F x =
    let below = c.write_chain-below.ensures _ (first_fits x (omega arith)) in
    let rest = c.write_chain-end.ensures _ (next_fits x (omega arith) below.number_is c.write_chain-below.auto.form) in
    chain_written x (omega arith) below rest (rw (← c.link_to.ensures, ← c.link_to-2.ensures) c.put_at.ensures)
