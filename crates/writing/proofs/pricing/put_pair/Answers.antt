-- `writing::pricing::put_pair` meets its contract.
use Rattle.std.proofs.Common.{sym, arith}
use Rattle.text.proofs.Writing.{put_nothing}
use Rattle.writing.specs.Text.{own_pair}
use Rattle.writing.proofs.pricing.put_pair.Goals as goal

pub put-requires : goal.put-requires
unfolding own_pair
put-requires c = let room = rw (sym c.if-is_taxon.ensures) at c.requires.long_enough in omega (arith, room)

pub returns-then-is_taxon : goal.returns-then-is_taxon
unfolding own_pair
returns-then-is_taxon c = rw (sym c.if-is_taxon.ensures, ← c.plate_of.ensures, ← c.price_of.ensures) c.put.ensures

pub returns-else-is_taxon : goal.returns-else-is_taxon
unfolding own_pair
returns-else-is_taxon c = rw (sym c.if-is_taxon.ensures) (put_nothing _)
