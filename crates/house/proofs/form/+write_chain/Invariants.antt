-- `house::form::write_chain` meets its contract. The measure is how many records the tables have from r on.
use Rattle.outline.specs.Inner.{numbers}
use Rattle.house.proofs.Tables.{records_from}
use Rattle.house.proofs.form.+write_chain.Given as goal

abbrev pub decreases-write_chain : goal.decreases-write_chain
decreases-write_chain l = records_from numbers l.chains.now l.r
