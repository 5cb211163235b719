-- `quick::picker::can_pick` meets its contract.
use Rattle.quick.proofs.Hand.{can_pick_is}
use Rattle.quick.proofs.picker.can_pick.Goals as goal

pub returns : goal.returns
returns c = can_pick_is c.requires c.args.room c.is_taxon.ensures c.is_chosen-open.ensures
