-- `quick::picker::next_pick` meets its contract.
use Rattle.quick.proofs.Adding.{no_sums}
use Rattle.quick.proofs.picker.next_pick.Goals as goal

pub look_at_all-taxon-requires : goal.look_at_all-taxon-requires
look_at_all-taxon-requires c = (c.requires, no_sums c.default-sums.result c.default-sums.ensures)
