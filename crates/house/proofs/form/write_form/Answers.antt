-- `house::form::write_form` meets its contract: the chain of record 1 is the whole tree.
use Rattle.house.proofs.Writing.{house_fits, house_written}
use Rattle.house.proofs.form.write_form.Goals as goal

pub write_chain-requires : goal.write_chain-requires
write_chain-requires c = record { forest = _; fits = house_fits c.requires c.of-chains.ensures }

pub returns : goal.returns
returns c = house_written c.requires (c.write_chain.ensures _ (house_fits c.requires c.of-chains.ensures))
