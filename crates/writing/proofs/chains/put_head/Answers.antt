-- `writing::chains::put_head` meets its contract.
use Rattle.std.proofs.Common.{sym}
use Rattle.writing.specs.Inner.{head}
use Rattle.writing.proofs.chains.put_head.Goals as goal

pub put_number-requires : goal.put_number-requires
unfolding head
put_number-requires c = rw (sym c.if-is_taxon.ensures, ← c.plate_of.ensures) at c.requires.long_enough

pub put-requires : goal.put-requires
unfolding head
put-requires c = rw (sym c.if-is_taxon.ensures) at c.requires.long_enough

pub returns-then-is_taxon : goal.returns-then-is_taxon
unfolding head
returns-then-is_taxon c = rw (sym c.if-is_taxon.ensures, ← c.plate_of.ensures) c.put_number.ensures

pub returns-else-is_taxon : goal.returns-else-is_taxon
unfolding head
returns-else-is_taxon c = rw (sym c.if-is_taxon.ensures) c.put.ensures
